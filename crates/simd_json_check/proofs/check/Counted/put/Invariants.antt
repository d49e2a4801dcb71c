use Rattle.simd_json_stages.specs.Placed.{noting}
use Rattle.simd_json_check.proofs.check.Counted.put.Given as goal

abbrev pub ghost-of : goal.ghost-of
ghost-of g a = noting a.seen.now.0.now.note g.node
