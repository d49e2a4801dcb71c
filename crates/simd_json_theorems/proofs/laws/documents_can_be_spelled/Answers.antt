use Rattle.simd_json_theorems.proofs.Documents.Spelling.{IsSpellable-denoted}
use Rattle.simd_json_theorems.proofs.laws.documents_can_be_spelled.Goals as goal

pub returns : goal.returns
returns c = IsSpellable-denoted
