use Rattle.std.proofs.Common.{arith}
use Rattle.std.proofs.lemmas.Int.{ints, clamps}
use Rattle.simd_json_number.proofs.exponent.next_difference.Goals as goal

pub returns-then-next-gt-LIMIT : goal.returns-then-next-gt-LIMIT
returns-then-next-gt-LIMIT c = omega (arith, ints, clamps)

pub returns-then-next : goal.returns-then-next
returns-then-next c = omega (arith, ints, clamps)

pub returns : goal.returns
returns c = omega (arith, ints, clamps)
