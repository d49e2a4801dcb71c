use Rattle.std.proofs.Common.{◌≡◌, length}
use Rattle.simd_json.specs.Viewed.{doc}
use Rattle.simd_json_path.specs.IteratorNodes.{selector_nodes_left}
use Rattle.simd_json_path.specs.SliceNodes.{children_left}
use Rattle.simd_json_path.proofs.selector_nodes.SelectorNodes.next.Given as goal

abbrev pub invariant-children : goal.invariant-children
invariant-children l = selector_nodes_left (doc l.root) l.self ≡ selector_nodes_left (doc l.fn.root) l.fn.self

abbrev pub decreases-children : goal.decreases-children
decreases-children l = length (children_left l.self.children)
