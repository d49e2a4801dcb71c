use Rattle.simd_json_parts.specs.Nodes.{static_item}
use Rattle.simd_json_stages.specs.Placed.{textless}
use Rattle.simd_json_check.proofs.check.CountedSpanSink.push_static.Given as goal

abbrev pub ghost-put : goal.ghost-put
ghost-put a = textless (static_item a.seen.now)
