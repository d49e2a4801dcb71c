use Rattle.simd_json_parts.specs.Nodes.{decimal_item}
use Rattle.simd_json_stages.specs.Placed.{placed_at, noting}
use Rattle.simd_json.proofs.kept.KeptSinkSpanSink.push_decimal.Given as goal

abbrev pub ghost-of : goal.ghost-of
ghost-of g a = noting a.seen.now.0.now.note (placed_at a.seen.now.1 a.seen.now.2.now (decimal_item a.seen.now.2.now))
