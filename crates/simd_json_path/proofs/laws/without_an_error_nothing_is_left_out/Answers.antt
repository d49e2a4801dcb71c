use Rattle.simd_json_path.proofs.Enough.{path-whole}
use Rattle.simd_json_path.proofs.laws.without_an_error_nothing_is_left_out.Goals as goal

pub returns : goal.returns
returns c = path-whole
