use Rattle.std.proofs.Common.{◌≡◌, ◌-◌, ◌≤◌, length}
use Rattle.simd_json_stages.specs.Members.{AtElement}
use Rattle.simd_json_stages.specs.Put.{SameSink}
use Rattle.simd_json_stages.proofs.stage2.machine.Machine.elements.Given as goal

abbrev pub invariant-values : goal.invariant-values
invariant-values g l = record {
  element : AtElement g.K.Original.bytes l.route l.self (g.B.Builder.reads g.K.Original.bytes l.builder) (g.B.Builder.node_room l.builder)
      (g.B.Builder.held_nodes l.builder) l.p;
  further : l.fn.first.read ≤ l.p.read;
  sink : SameSink g.B.Builder.node_room g.B.Builder.lender l.fn.builder l.builder;
  stack : length l.self.stack.now ≡ length l.fn.self.stack.now;
}

abbrev pub decreases-values : goal.decreases-values
decreases-values g l = length l.route.indexes.now - l.p.read
