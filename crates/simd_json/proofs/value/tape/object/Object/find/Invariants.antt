use Rattle.std.proofs.Common.{◌≡◌}
use Rattle.simd_json_parts.specs.Views.{first_with}
use Rattle.simd_json.specs.Viewed.{pairs}
use Rattle.simd_json.proofs.value.tape.object.Object.find.Given as goal

abbrev pub invariant-loop-key : goal.invariant-loop-key
invariant-loop-key l = first_with l.k (pairs l.key-iterator.left) ≡ first_with l.k (pairs l.self)
