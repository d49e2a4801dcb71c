use Rattle.simd_json_path.proofs.Levels.{is-comparison}
use Rattle.simd_json_path.proofs.laws.a_comparison_exists.Goals as goal

pub returns : goal.returns
returns c = is-comparison
