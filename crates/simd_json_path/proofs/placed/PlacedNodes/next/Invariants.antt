use Rattle.std.proofs.Common.{◌≡◌, length}
use Rattle.simd_json.specs.Viewed.{doc}
use Rattle.simd_json_path.specs.PlacedNodes.{placed_left, placed_nodes_left}
use Rattle.simd_json_path.proofs.placed.PlacedNodes.next.Given as goal

abbrev pub invariant-children : goal.invariant-children
invariant-children l = placed_nodes_left (doc l.root) l.self ≡ placed_nodes_left (doc l.fn.root) l.fn.self

abbrev pub decreases-children : goal.decreases-children
decreases-children l = length (placed_left l.self.children)
