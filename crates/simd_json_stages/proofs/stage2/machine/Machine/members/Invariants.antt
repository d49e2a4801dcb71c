use Rattle.std.proofs.Common.{◌≡◌, ◌-◌, ◌≤◌, length}
use Rattle.simd_json_stages.specs.Members.{AtPair}
use Rattle.simd_json_stages.specs.Put.{SameSink}
use Rattle.simd_json_stages.proofs.stage2.machine.Machine.members.Given as goal

abbrev pub invariant-pairs : goal.invariant-pairs
invariant-pairs g l = record {
  pair : AtPair g.K.Original.bytes l.route l.self (g.B.Builder.reads g.K.Original.bytes l.builder) (g.B.Builder.node_room l.builder)
      (g.B.Builder.held_nodes l.builder) l.p l.kind;
  further : l.fn.first.read ≤ l.p.read;
  sink : SameSink g.B.Builder.node_room g.B.Builder.lender l.fn.builder l.builder;
  stack : length l.self.stack.now ≡ length l.fn.self.stack.now;
}

abbrev pub decreases-pairs : goal.decreases-pairs
decreases-pairs g l = length l.route.indexes.now - l.p.read
