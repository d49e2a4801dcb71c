use Rattle.simd_json_parts.specs.Nodes.{static_item}
use Rattle.simd_json_stages.specs.Placed.{placed_at}
use Rattle.simd_json_check.proofs.check.CountedSpanSink.push_wide.Given as goal

abbrev pub ghost-put : goal.ghost-put
ghost-put a = placed_at a.seen.now.0 a.seen.now.1.now (static_item a.seen.now.2)
