use Rattle.simd_json_parts.specs.Nodes.{static_item}
use Rattle.simd_json_stages.specs.Placed.{textless, noting}
use Rattle.simd_json.proofs.kept.KeptSinkSpanSink.push_static.Given as goal

abbrev pub ghost-of : goal.ghost-of
ghost-of g a = noting a.seen.now.0.now.note (textless (static_item a.seen.now.1))
