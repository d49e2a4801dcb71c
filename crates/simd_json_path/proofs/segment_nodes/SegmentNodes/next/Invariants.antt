use Rattle.std.proofs.Common.{◌≡◌, length}
use Rattle.simd_json.specs.Viewed.{doc}
use Rattle.simd_json_path.specs.IteratorNodes.{segment_nodes_left}
use Rattle.simd_json_path.proofs.segment_nodes.SegmentNodes.next.Given as goal

abbrev pub invariant-selectors : goal.invariant-selectors
invariant-selectors l = segment_nodes_left (doc l.root) l.self ≡ segment_nodes_left (doc l.fn.root) l.fn.self

abbrev pub decreases-selectors : goal.decreases-selectors
decreases-selectors l = length l.self.selectors.now
