use Rattle.std.proofs.Common.{◌≡◌, ◌<◌, ◌+◌, ◌*◌, ◌^◌, ◌++◌, length, drop, map, flat_map}
use Rattle.simd_json.specs.Sizes.{size, sizes}
use Rattle.simd_json.specs.Viewed.{doc}
use Rattle.simd_json_path.specs.Locations.{along, below, by_segment, located_from, nodes_from, selected_nodes}
use Rattle.simd_json_path.specs.PlacedNodes.{found, node_of, placed_left, placed_nodes_left, texts, way_of}
use Rattle.simd_json_path.proofs.LocatedNodes.{beneath, steps_left, values}
use Rattle.simd_json_path.proofs.located.+locate.Given as goal

-- ---- each call is of fewer segments or steps, or of a smaller value

abbrev pub decreases-locate_from : goal.decreases-locate_from
decreases-locate_from l = steps_left l.segments.now * 2 ^ 64

abbrev pub decreases-locate_beneath : goal.decreases-locate_beneath
decreases-locate_beneath l = (steps_left l.others.now + length l.segment.now.steps.now + 3) * 2 ^ 64 + size (doc l.node.now.value)

abbrev pub decreases-locate_by : goal.decreases-locate_by
decreases-locate_by l = (steps_left l.others.now + length l.segment.now.steps.now + 3) * 2 ^ 64

abbrev pub decreases-locate_among : goal.decreases-locate_among
decreases-locate_among l = (steps_left l.others.now + length l.steps.now + 2) * 2 ^ 64

abbrev pub decreases-locate_along : goal.decreases-locate_along
decreases-locate_along l = (steps_left l.others.now + length l.steps.now + 1) * 2 ^ 64

-- ---- what is found, and what is left to be found

abbrev pub invariant-locate_beneath-children : goal.invariant-locate_beneath-children
invariant-locate_beneath-children l = record {
  all : found l.located.items
      ++ texts (beneath (by_segment (doc l.root) (located_from (doc l.root) l.others) l.segment) (way_of l.node.location)
      (placed_left l.children))
      ≡ found l.fn.located.items
      ++ texts (flat_map (by_segment (doc l.fn.root) (located_from (doc l.fn.root) l.fn.others) l.fn.segment)
      (nodes_from (way_of l.fn.node.location) (doc l.fn.node.value)));
  smaller : sizes (values (placed_left l.children)) < size (doc l.fn.node.value);
}

abbrev pub decreases-locate_beneath-children : goal.decreases-locate_beneath-children
decreases-locate_beneath-children l = length (placed_left l.children)

abbrev pub invariant-locate_by-loop-selector : goal.invariant-locate_by-loop-selector
invariant-locate_by-loop-selector l =
    found l.located.items
    ++ texts (flat_map (along (located_from (doc l.root) l.others) l.segment.steps.now)
    (selected_nodes (doc l.root) (drop l.selector-index l.segment.selectors.now) (node_of l.node)))
    ≡ found l.fn.located.items
    ++ texts (by_segment (doc l.fn.root) (located_from (doc l.fn.root) l.fn.others) l.fn.segment (node_of l.fn.node))

abbrev pub invariant-locate_among-nodes : goal.invariant-locate_among-nodes
invariant-locate_among-nodes l =
    found l.located.items
    ++ texts (flat_map (along (located_from (doc l.root) l.others) l.steps)
    (map (below (node_of l.node)) (placed_nodes_left (doc l.root) l.nodes)))
    ≡ found l.fn.located.items
    ++ texts (flat_map (along (located_from (doc l.fn.root) l.fn.others) l.fn.steps)
    (map (below (node_of l.fn.node)) (placed_nodes_left (doc l.fn.root) l.fn.nodes)))

abbrev pub decreases-locate_among-nodes : goal.decreases-locate_among-nodes
decreases-locate_among-nodes l = length (placed_nodes_left (doc l.root) l.nodes)
