use Rattle.std.proofs.Common.{◌≡◌}
use Rattle.simd_json_ondemand.specs.Sites.{element_sites}
use Rattle.simd_json_ondemand.specs.Walked.{elements_ahead}
use Rattle.simd_json_ondemand.specs.Walks.{first, walk_past}
use Rattle.simd_json_ondemand.proofs.array.Array.behind.Given as goal

abbrev pub invariant-loop-value : goal.invariant-loop-value
invariant-loop-value l =
    (first (walk_past l.index (elements_ahead l.fn.self)) ≡ first (walk_past l.left (elements_ahead l.elements)))
    × (first (walk_past l.index (element_sites l.fn.self)) ≡ first (walk_past l.left (element_sites l.elements)))

abbrev pub decreases-loop-value : goal.decreases-loop-value
decreases-loop-value l = l.left
