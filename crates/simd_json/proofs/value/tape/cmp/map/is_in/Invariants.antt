use Rattle.std.proofs.Common.{◌≡◌, Bool}
use Rattle.std.specs.HashMap.{get_by_text, values}
use Rattle.simd_json_parts.specs.Document.{Document}
use Rattle.simd_json_parts.specs.MapEquality.{are_in}
use Rattle.simd_json.specs.MapCompared.{MayCompare, Says}
use Rattle.simd_json.specs.Viewed.{pairs}
use Rattle.simd_json.proofs.value.tape.cmp.map.is_in.Given as goal

abbrev pub invariant-loop-key : goal.invariant-loop-key
invariant-loop-key g l =
    MayCompare g.F.Fn l.same (values l.map) (pairs l.left)
    × ((says : g.row.T.Denot → Document → Bool) → Says g.F.Fn l.same says
    → are_in (get_by_text l.map) says (pairs l.left) ≡ are_in (get_by_text l.map) says (pairs l.fn.object))

abbrev pub decreases-loop-key : goal.decreases-loop-key
decreases-loop-key g l = l.left.len
