use Rattle.simd_json.proofs.Parses.ParseAnswers.{tokens-have-characters}
use Rattle.simd_json.proofs.laws.faults_of_tokens_have_characters.Goals as goal

pub returns : goal.returns
returns c b limit e rejected = tokens-have-characters b e rejected.kinds
