use Rattle.simd_json_parts.proofs.Documents.Listing.{IsHeaded-document}
use Rattle.simd_json_theorems.proofs.laws.listings_are_headed.Goals as goal

pub returns : goal.returns
returns c = IsHeaded-document
