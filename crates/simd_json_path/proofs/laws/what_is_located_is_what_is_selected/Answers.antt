use Rattle.simd_json_path.proofs.Locations.{documents-are-selected}
use Rattle.simd_json_path.proofs.laws.what_is_located_is_what_is_selected.Goals as goal

pub returns : goal.returns
returns c = documents-are-selected
