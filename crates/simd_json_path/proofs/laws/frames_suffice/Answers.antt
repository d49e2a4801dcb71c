use Rattle.simd_json_path.proofs.Enough.{path-enough}
use Rattle.simd_json_path.proofs.laws.frames_suffice.Goals as goal

pub returns : goal.returns
returns c = path-enough
