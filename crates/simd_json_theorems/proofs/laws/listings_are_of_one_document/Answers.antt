use Rattle.simd_json_parts.proofs.Documents.Listing.{listing_cancel}
use Rattle.simd_json_theorems.proofs.laws.listings_are_of_one_document.Goals as goal

pub returns : goal.returns
returns c = listing_cancel
