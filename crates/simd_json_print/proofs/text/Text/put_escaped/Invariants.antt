use Rattle.std.proofs.Common.{◌≡◌, ◌++◌, List, ℕ, flat_map, length}
use Rattle.simd_json_parts.specs.Printed.{escaped_byte}
use Rattle.simd_json_print.specs.Texts.{Adds}
use Rattle.simd_json_print.proofs.text.Text.put_escaped.Given as goal

abbrev pub invariant-loop-self : goal.invariant-loop-self
invariant-loop-self g l =
    (done : List ℕ) × Adds g.T.Target.state l.initial.self l.self done
    × (done ++ flat_map escaped_byte l.left ≡ flat_map escaped_byte l.initial.left)

abbrev pub decreases-loop-self : goal.decreases-loop-self
decreases-loop-self g l = length l.left
