-- The path of a mismatch, in the document that the input is.
use Rattle.std.proofs.Common.{ℕ, List, Result, Ok, Err, IfErr}
use Rattle.simd_json_parts.specs.Document.{Document}
use Rattle.simd_json_parts.specs.Grammar.{Denotes}
use Rattle.simd_json_serde.specs.Outcomes.{HasErrorPath, HasPathIn}
use Rattle.simd_json_serde.specs.declared.error.ReadError.{ReadError}
use Rattle.simd_json_serde.specs.declared.error.ReadError.TheVariants.{Parse, Mismatch}

pub path-in : {T : Type 0} (b : List ℕ) (d : Document) (r : Result T ReadError) → Denotes b d → IfErr r (HasErrorPath d)
    → IfErr r (HasPathIn b)
path-in b d (Ok value) denoted path = tt
path-in b d (Err (Mismatch m)) denoted path = (d, denoted, path)
path-in b d (Err (Parse e)) denoted path = tt
