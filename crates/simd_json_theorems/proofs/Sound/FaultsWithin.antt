-- A fault within a token: the bytes of the token before it go on to a list of a set.
use Rattle.std.proofs.Common.{◌≡◌, ℕ, List, ◌++◌, drop, false}
use Rattle.std.specs.Prelude.{Result, Ok, Err}
use Rattle.simd_json_parts.specs.ErrorKinds.{is_unexpected_token}
use Rattle.simd_json_parts.specs.Strings.{IsStringLiteral}
use Rattle.simd_json_parts.specs.declared.error.Error.{Error}

-- The token stands at index k of b. Its bytes are told apart from no token that an array or an object does not expect.
pub record FaultWithin (b : List ℕ) (k : ℕ) (P : List ℕ → Type 0) (e : Error) : Type 0 where
  pub prefix : List ℕ
  pub rest : List ℕ
  pub split : drop k b ≡ prefix ++ drop e.index b
  pub goes_on : P (prefix ++ rest)
  pub kind : is_unexpected_token e.error ≡ false

-- the bytes are some string
abbrev pub IsString : List ℕ → Type 0
IsString bs = (t : List ℕ) × IsStringLiteral bs t

-- the string at index k has such a fault, if it has one
abbrev pub StringFault : List ℕ → ℕ → Result (List ℕ × ℕ) Error → Type 0
StringFault b k (Ok r) = Unit {0}
StringFault b k (Err e) = FaultWithin b k IsString e
