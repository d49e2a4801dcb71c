use Rattle.std.proofs.Common.{◌≡◌, length}
use Rattle.std.specs.Prelude.{is_some}
use Rattle.simd_json_parts.specs.Pointed.{unescaped}
use Rattle.simd_json_parts.proofs.pointer.key.is_well_formed.Given as goal

abbrev pub invariant-loop-rest : goal.invariant-loop-rest
invariant-loop-rest l = is_some (unescaped l.token) ≡ is_some (unescaped l.left)

abbrev pub decreases-loop-rest : goal.decreases-loop-rest
decreases-loop-rest l = length l.left
