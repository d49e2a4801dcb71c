-- The document that begins at a value's structural index, if one does.
use Rattle.std.specs.Prelude.{ℕ, List, length, Option, Some, None, Result, Ok, Err}
use Rattle.simd_json_parts.specs.Document.{Document}
use Rattle.simd_json_parts.specs.Descent.{value_from}
use Rattle.simd_json_parts.specs.Faults.{fault_at}
use Rattle.simd_json_parts.specs.Tokens.{Token}
use Rattle.simd_json_parts.specs.TokensAlong.{tokens_along}
use Rattle.simd_json_parts.specs.declared.error.Error.{Error}
use Rattle.simd_json_parts.specs.declared.error.ErrorType.TheVariants.{Syntax}

abbrev pub first_read : Result (Document × List Token) Error → Option Document
first_read (Ok r) = Some r.0
first_read (Err e) = None

abbrev pub read_along : List ℕ → List ℕ → Option Document
read_along b is = let ts = tokens_along b is in first_read (value_from b (fault_at b Syntax 0) (length ts) ts)
