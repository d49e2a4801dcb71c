use Rattle.std.proofs.Common.{arith}
use Rattle.simd_json_parts.proofs.Lists.LaneRuns.{mask-either}
use Rattle.simd_json_ondemand.proofs.key.stops.Goals as goal

pub returns : goal.returns
returns c = mask-either 34 92 8 c.args.bytes c.fits-bytes.0 (omega arith)
