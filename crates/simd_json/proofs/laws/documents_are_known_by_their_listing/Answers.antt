use Rattle.simd_json.proofs.Views.Listed.{known}
use Rattle.simd_json.proofs.laws.documents_are_known_by_their_listing.Goals as goal

pub returns : goal.returns
returns c = known
