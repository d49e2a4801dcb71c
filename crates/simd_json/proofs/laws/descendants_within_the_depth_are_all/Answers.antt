use Rattle.simd_json.proofs.Views.Beneath.{within-depth}
use Rattle.simd_json.proofs.laws.descendants_within_the_depth_are_all.Goals as goal

pub returns : goal.returns
returns c = within-depth
