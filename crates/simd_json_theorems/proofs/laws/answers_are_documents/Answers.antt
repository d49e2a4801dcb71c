use Rattle.simd_json_theorems.proofs.Sound.Answer.{answer-sound}
use Rattle.simd_json_theorems.proofs.laws.answers_are_documents.Goals as goal

pub returns : goal.returns
returns c = answer-sound
