use Rattle.std.proofs.Common.{◌-◌, length}
use Rattle.simd_json_stages.specs.Members.{HasCome}
use Rattle.simd_json_stages.specs.Progresses.{reached}
use Rattle.simd_json_stages.specs.Put.{SameSink}
use Rattle.simd_json_stages.proofs.stage2.machine.build.Given as goal

abbrev pub invariant-values : goal.invariant-values
invariant-values g l = record {
  came : HasCome g.K.Original.bytes l.route l.machine (g.B.Builder.reads g.K.Original.bytes l.builder) (g.B.Builder.node_room l.builder)
      (g.B.Builder.held_nodes l.builder) l.value;
  sink : SameSink g.B.Builder.node_room g.B.Builder.lender l.fn.builder l.builder;
}

abbrev pub decreases-values : goal.decreases-values
decreases-values g l = length l.route.indexes.now - (reached l.value).read
