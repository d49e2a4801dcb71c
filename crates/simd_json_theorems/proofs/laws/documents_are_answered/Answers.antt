use Rattle.simd_json_theorems.proofs.Complete.Answer.{answer-Denotes}
use Rattle.simd_json_theorems.proofs.laws.documents_are_answered.Goals as goal

pub returns : goal.returns
returns c = answer-Denotes
