-- What is reported to a program in C of a text.
use Rattle.std.specs.Prelude.{◌≡◌, ℕ, List, length, Ok, Err, ℤ, negsuc}
use Rattle.simd_json_parts.specs.Answer.{answer}
use Rattle.simd_json_parts.specs.Document.{Document}
use Rattle.simd_json_stages.specs.Capacities.{default_max_depth}
use Rattle.simd_json_parts.specs.Listing.{listing}
use Rattle.simd_json_parts.specs.declared.error.Error.{Error}

-- b is a document with n nodes
pub record HasNodes (b : List ℕ) (n : ℕ) : Type 0 where
  pub document : Document
  pub answered : answer b default_max_depth ≡ Ok document
  pub counted : n ≡ length (listing document)

-- b has a fault
pub record HasFault (b : List ℕ) : Type 0 where
  pub fault : Error
  pub answered : answer b default_max_depth ≡ Err fault

-- -1, which is reported of a text with a fault
abbrev pub rejected : ℤ
rejected = negsuc 0
