use Rattle.std.proofs.Common.{◌-◌, ◌≤◌, length}
use Rattle.simd_json_stages.specs.Members.{AfterLast}
use Rattle.simd_json_stages.specs.Progresses.{reached}
use Rattle.simd_json_stages.specs.Put.{SameSink}
use Rattle.simd_json_stages.proofs.stage2.machine.Machine.next_member.Given as goal

abbrev pub invariant-loop-p : goal.invariant-loop-p
invariant-loop-p g l = record {
  last : AfterLast g.K.Original.bytes l.route l.self (g.B.Builder.reads g.K.Original.bytes l.builder) (g.B.Builder.node_room l.builder)
      (g.B.Builder.held_nodes l.builder) l.p;
  passed : (reached l.fn.value).read ≤ l.p.read;
  sink : SameSink g.B.Builder.node_room g.B.Builder.lender l.fn.builder l.builder;
}

abbrev pub decreases-loop-p : goal.decreases-loop-p
decreases-loop-p g l = length l.route.indexes.now - l.p.read
