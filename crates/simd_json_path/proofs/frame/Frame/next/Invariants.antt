use Rattle.std.proofs.Common.{◌≡◌, ◌+◌, length}
use Rattle.simd_json.specs.Descending.{containers_left}
use Rattle.simd_json.specs.Viewed.{doc}
use Rattle.simd_json_path.specs.IteratorNodes.{before_steps, frame_left}
use Rattle.simd_json_path.proofs.frame.Frame.next.Given as goal

abbrev pub invariant-nodes : goal.invariant-nodes
invariant-nodes l = frame_left (doc l.root) l.self ≡ frame_left (doc l.fn.root) l.fn.self

abbrev pub decreases-nodes : goal.decreases-nodes
decreases-nodes l = length (before_steps (doc l.root) l.self) + length (containers_left l.self.containers)
