use Rattle.std.proofs.Common.{◌≡◌, ◌≤◌, ◌-◌, length, drop}
use Rattle.simd_json.specs.Descending.{left_by}
use Rattle.simd_json_parts.specs.Document.{Elements}
use Rattle.simd_json.proofs.value.tape.descendants.Open.first_unfinished.Given as goal

abbrev pub invariant-loop-index : goal.invariant-loop-index
invariant-loop-index l =
    (l.index ≤ length l.levels) × ((ds : Elements) → left_by l.from (drop l.from l.levels) ds ≡ left_by l.index (drop l.index l.levels) ds)

abbrev pub decreases-loop-index : goal.decreases-loop-index
decreases-loop-index l = length l.levels - l.index
