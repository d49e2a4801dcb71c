use Rattle.simd_json_stages.specs.Building.{header_of}
use Rattle.simd_json_stages.specs.Placed.{textless}
use Rattle.simd_json_check.proofs.check.CountedSpanSink.push_header.Given as goal

abbrev pub ghost-put : goal.ghost-put
ghost-put a = textless (header_of a.seen.now 0 0)
