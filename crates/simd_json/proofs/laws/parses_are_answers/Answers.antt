use Rattle.simd_json.proofs.Parses.ParseAnswers.{as-answered}
use Rattle.simd_json.proofs.laws.parses_are_answers.Goals as goal

pub returns : goal.returns
returns c b limit capacity fault nodes listed p memory = as-answered b limit capacity fault nodes listed p memory
