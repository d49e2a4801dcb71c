use Rattle.simd_json.proofs.Parses.ParseEnds.{capacity-kept}
use Rattle.simd_json.proofs.laws.kept_lists_keep_capacity.Goals as goal

pub returns : goal.returns
returns c old new same kept = capacity-kept old new same kept
