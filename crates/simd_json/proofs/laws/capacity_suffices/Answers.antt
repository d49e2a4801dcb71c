use Rattle.simd_json.proofs.Parses.ParseAnswers.{has-memory}
use Rattle.simd_json.proofs.laws.capacity_suffices.Goals as goal

pub returns : goal.returns
returns c b limit capacity fault nodes listed p enough = has-memory b limit capacity fault nodes listed p enough
