use Rattle.simd_json_theorems.proofs.Unique.OneDocument.{document-one}
use Rattle.simd_json_theorems.proofs.laws.bytes_denote_one_document.Goals as goal

pub returns : goal.returns
returns c = document-one
