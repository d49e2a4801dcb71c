use Rattle.std.proofs.Common.{arith}
use Rattle.std.proofs.lemmas.Simd.{length-chunk}
use Rattle.simd_json_parts.proofs.Lists.LaneRuns.{mask-either}
use Rattle.simd_json_parts.proofs.pointer.token.stops.Goals as goal

pub returns : goal.returns
returns g c =
    mask-either c.args.one c.args.other g.row.N _ (length-chunk c.args.from g.row.N c.args.bytes.now c.requires.within) (omega arith)
