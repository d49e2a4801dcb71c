use Rattle.simd_json_path.proofs.Levels.{comparison-to}
use Rattle.simd_json_path.proofs.laws.levels_suffice.Goals as goal

pub returns : goal.returns
returns c f n d e is low = comparison-to f is n d e low
