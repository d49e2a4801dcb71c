use Rattle.std.proofs.Common.{◌≡◌}
use Rattle.simd_json.specs.Viewed.{pairs}
use Rattle.simd_json_parts.proofs.Pointers.Pointed.{found}
use Rattle.simd_json.proofs.value.tape.pointer.lookup.member.Given as goal

abbrev pub invariant-loop-key : goal.invariant-loop-key
invariant-loop-key l = found l.token (pairs l.key-iterator.left) ≡ found l.token (pairs l.fn.object)
