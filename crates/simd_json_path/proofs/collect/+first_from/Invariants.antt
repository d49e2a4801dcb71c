use Rattle.std.proofs.Common.{◌≡◌, [], ◌∷◌, length}
use Rattle.std.specs.Prelude.{slice_get}
use Rattle.simd_json.specs.Viewed.{doc}
use Rattle.simd_json_path.specs.IteratorNodes.{frame_left}
use Rattle.simd_json_path.specs.Nodes.{nodes}
use Rattle.simd_json_path.specs.Paths.{selected_by}
use Rattle.simd_json_path.proofs.collect.+first_from.Given as goal

abbrev pub decreases-first_from : goal.decreases-first_from
decreases-first_from l = length l.segments.now

abbrev pub invariant-nodes : goal.invariant-nodes
invariant-nodes l =
    slice_get (nodes (selected_by (doc l.root)) l.others (frame_left (doc l.root) l.frame)) 0
    ≡ slice_get (nodes (selected_by (doc l.fn.root)) l.fn.segments (doc l.fn.value ∷ [])) 0

abbrev pub decreases-nodes : goal.decreases-nodes
decreases-nodes l = length (frame_left (doc l.root) l.frame)
