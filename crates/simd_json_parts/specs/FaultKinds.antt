-- Of which kinds the faults of a parse are, what each carries, and where it may be. Neither acceptance nor faults rest on it.
use Rattle.std.specs.Prelude.{◌≡◌, ◌⊎◌, ℕ, List, ◌++◌, Bool, true, false, IsTrue, IsSome}
use Rattle.simd_json_parts.specs.Document.{Document}
use Rattle.simd_json_parts.specs.Faults.{whole_fault}
use Rattle.simd_json_parts.specs.Grammar.{Denotes}
use Rattle.simd_json_parts.specs.declared.error.Error.{Error}
use Rattle.simd_json_parts.specs.declared.error.ErrorType.{ErrorType}
use Rattle.simd_json_parts.specs.declared.error.ErrorType.TheVariants as errors

-- of a whole input: it is too large, it is no UTF-8, it has a bad string, or it has no token
abbrev pub is_input_kind : ErrorType → Bool
is_input_kind errors.InputTooLarge = true
is_input_kind errors.InvalidUtf8 = true
is_input_kind errors.Syntax = true
is_input_kind errors.Eof = true
is_input_kind _ = false

-- of a token: another is expected, or one where none is left; it is no `true`, `false`, `null` or number; a string
-- of it has a bad escape; it opens one container too many; or there is input after the root
abbrev pub is_token_kind : ErrorType → Bool
is_token_kind errors.InternalError = true
is_token_kind errors.ExpectedArrayContent = true
is_token_kind errors.ExpectedObjectContent = true
is_token_kind errors.ExpectedObjectKey = true
is_token_kind errors.ExpectedObjectColon = true
is_token_kind errors.Syntax = true
is_token_kind errors.ExpectedTrue = true
is_token_kind errors.ExpectedFalse = true
is_token_kind errors.ExpectedNull = true
is_token_kind errors.InvalidNumber = true
is_token_kind errors.InvalidEscape = true
is_token_kind errors.InvalidUnicodeCodepoint = true
is_token_kind errors.DepthLimitExceeded = true
is_token_kind errors.TrailingData = true
is_token_kind _ = false

-- it is of a whole input: at index 0, without a character
abbrev pub IsOfInput : Error → Type 0
IsOfInput e = IsTrue (is_input_kind e.error) × (e ≡ whole_fault e.error)

-- it is of a token: with a character
abbrev pub IsOfToken : Error → Type 0
IsOfToken e = IsTrue (is_token_kind e.error) × IsSome e.character

-- Each fault that the definitions give is one of these. Beside them a parse reports only that an allocation failed
-- or padding is missing.
abbrev pub IsNamedFault : Error → Type 0
IsNamedFault e = IsOfInput e ⊎ IsOfToken e

-- The bytes go on to a document. Those before the index of a fault at a token do.
abbrev pub IsBeginning : List ℕ → Type 0
IsBeginning bs = (rest : List ℕ) × (d : Document) × Denotes (bs ++ rest) d
