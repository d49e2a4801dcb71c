-- What a printed text says, and what it is parsed as.
use Rattle.std.specs.Prelude.{◌≡◌, ℕ, List, true, Option, None}
use Rattle.simd_json_parts.specs.Document.{Document}
use Rattle.simd_json_parts.specs.Equality.{equal}
use Rattle.simd_json_theorems.specs.Normalized.{normalized}
use Rattle.simd_json_parts.specs.Grammar.{Denotes}
use Rattle.simd_json_parts.specs.Limits.{depth}
use Rattle.simd_json_parts.specs.Listing.{listing}
use Rattle.simd_json_parts.specs.Nodes.{Item}
use Rattle.simd_json_parts.specs.declared.error.Error.{Error}

-- the bytes denote a document that is equal to this one, and nests as deep
abbrev pub DenotesEqual : List ℕ → Document → Type 0
DenotesEqual b d = (e : Document) × Denotes b e × (equal e d ≡ true) × (depth e ≡ depth d)

-- there is no fault, and the nodes are those of this document with no sign on a zero, which is equal to it
abbrev pub IsParsedAgain : Document → Option Error → List Item → Type 0
IsParsedAgain d fault nodes = (fault ≡ None) × (nodes ≡ listing (normalized d)) × (equal (normalized d) d ≡ true)
