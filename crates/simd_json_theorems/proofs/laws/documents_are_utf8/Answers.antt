use Rattle.simd_json_theorems.proofs.Complete.Utf8Documents.{IsUtf8-Denotes}
use Rattle.simd_json_theorems.proofs.laws.documents_are_utf8.Goals as goal

pub returns : goal.returns
returns c = IsUtf8-Denotes
