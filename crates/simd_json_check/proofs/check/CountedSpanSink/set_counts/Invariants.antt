use Rattle.std.specs.Prelude.{slice_set}
use Rattle.simd_json_stages.specs.Building.{header_of}
use Rattle.simd_json_stages.specs.Placed.{textless}
use Rattle.simd_json_check.proofs.check.CountedSpanSink.set_counts.Given as goal

abbrev pub ghost-of : goal.ghost-of
ghost-of a =
    let n = a.seen.now.0.now.note in
    record n { placed = slice_set n.placed a.seen.now.1 (textless (header_of a.seen.now.2 a.seen.now.3 a.seen.now.4)) }
