use Rattle.simd_json_stages.specs.Building.{header_of}
use Rattle.simd_json_stages.specs.Placed.{textless, noting}
use Rattle.simd_json.proofs.kept.KeptSinkSpanSink.push_header.Given as goal

abbrev pub ghost-of : goal.ghost-of
ghost-of g a = noting a.seen.now.0.now.note (textless (header_of a.seen.now.1 0 0))
