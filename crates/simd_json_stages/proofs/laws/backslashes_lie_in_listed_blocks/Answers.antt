use Rattle.simd_json_stages.proofs.Scan.EscapeBlockLaws.{backslash-listed}
use Rattle.simd_json_stages.proofs.laws.backslashes_lie_in_listed_blocks.Goals as goal

pub returns : goal.returns
returns c = backslash-listed
