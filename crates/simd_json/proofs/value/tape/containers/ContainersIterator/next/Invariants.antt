use Rattle.std.proofs.Common.{◌≡◌, length}
use Rattle.simd_json.specs.Descending.{containers_left}
use Rattle.simd_json.proofs.value.tape.containers.ContainersIterator.next.Given as goal

abbrev pub invariant-nodes : goal.invariant-nodes
invariant-nodes l = containers_left l.self ≡ containers_left l.fn.self

abbrev pub decreases-nodes : goal.decreases-nodes
decreases-nodes l = length l.self.row.nodes.now
