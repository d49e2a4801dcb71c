use Rattle.std.proofs.Common.{◌≡◌, ◌+◌, ◌*◌, [], ◌∷◌, length, drop, flat_map}
use Rattle.simd_json.specs.Descending.{containers_left}
use Rattle.simd_json.specs.Viewed.{doc}
use Rattle.simd_json_path.specs.Nodes.{by_all, chosen_by, followed, nodes}
use Rattle.simd_json_path.specs.NthNode.{nth_of}
use Rattle.simd_json_path.specs.SliceNodes.{children_left}
use Rattle.simd_json_path.proofs.filter_query.+nth.Given as goal

-- ---- each call is of fewer segments, or of a smaller part of what one selects

abbrev pub decreases-nth_from : goal.decreases-nth_from
decreases-nth_from l = 3 * length l.segments.now

abbrev pub decreases-nth_among : goal.decreases-nth_among
decreases-nth_among l = 3 * length l.segments.now + 1

abbrev pub decreases-nth_by : goal.decreases-nth_by
decreases-nth_by l = 3 * length l.others.now + 2

abbrev pub invariant-nth_from-loop-container : goal.invariant-nth_from-loop-container
invariant-nth_from-loop-container l =
    nth_of (nodes chosen_by l.others
    (followed l.first.steps.now (flat_map (by_all chosen_by l.first.selectors.now) (containers_left l.containers)))) l.left
    ≡ nth_of (nodes chosen_by l.fn.segments (doc l.fn.node ∷ [])) l.fn.index

abbrev pub decreases-nth_from-loop-container : goal.decreases-nth_from-loop-container
decreases-nth_from-loop-container l = length (containers_left l.containers)

abbrev pub invariant-nth_by-loop-choice : goal.invariant-nth_by-loop-choice
invariant-nth_by-loop-choice l =
    nth_of (nodes chosen_by l.others (followed l.steps (by_all chosen_by (drop l.choice-index l.selectors) (doc l.node)))) l.left
    ≡ nth_of (nodes chosen_by l.fn.others (followed l.fn.steps (by_all chosen_by l.fn.selectors (doc l.fn.node)))) l.fn.index

abbrev pub invariant-nth_among-loop-child : goal.invariant-nth_among-loop-child
invariant-nth_among-loop-child l =
    nth_of (nodes chosen_by l.segments (followed l.steps (children_left l.children))) l.left
    ≡ nth_of (nodes chosen_by l.fn.segments (followed l.fn.steps (children_left l.fn.children))) l.fn.index

abbrev pub decreases-nth_among-loop-child : goal.decreases-nth_among-loop-child
decreases-nth_among-loop-child l = length (children_left l.children)
