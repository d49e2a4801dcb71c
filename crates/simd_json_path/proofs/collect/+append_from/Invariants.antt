use Rattle.std.proofs.Common.{◌≡◌, [], ◌∷◌, ◌++◌, length, map}
use Rattle.simd_json.specs.Viewed.{doc}
use Rattle.simd_json_path.specs.IteratorNodes.{frame_left}
use Rattle.simd_json_path.specs.Nodes.{nodes}
use Rattle.simd_json_path.specs.Paths.{selected_by}
use Rattle.simd_json_path.proofs.collect.+append_from.Given as goal

abbrev pub decreases-append_from : goal.decreases-append_from
decreases-append_from l = length l.segments.now

abbrev pub invariant-nodes : goal.invariant-nodes
invariant-nodes l =
    map doc l.values.items ++ nodes (selected_by (doc l.root)) l.others (frame_left (doc l.root) l.frame)
    ≡ map doc l.fn.values.items ++ nodes (selected_by (doc l.fn.root)) l.fn.segments (doc l.fn.value ∷ [])

abbrev pub decreases-nodes : goal.decreases-nodes
decreases-nodes l = length (frame_left (doc l.root) l.frame)
