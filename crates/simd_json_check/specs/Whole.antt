-- What the test of a whole input finds before it knows an error. It serves proofs: only the crate's private clauses
-- cite it.
use Rattle.std.specs.Prelude.{◌≡◌, ◌<◌, ◌≤◌, ◌==◌, ℕ, Bool, List, [], length, drop, slice_index, Ok}
use Rattle.simd_json_parts.specs.Bytes.{quote, backslash, byte_at}
use Rattle.simd_json_parts.specs.Descent.{value_from, array_from, object_from}
use Rattle.simd_json_parts.specs.Document.{Document, Elements, Members}
use Rattle.simd_json_parts.specs.Faults.{fault_at}
use Rattle.simd_json_parts.specs.StringAt.{read_pieces, string_at}
use Rattle.simd_json_parts.specs.TokensAlong.{tokens_along}
use Rattle.simd_json_parts.specs.declared.error.ErrorType.TheVariants.{Syntax}
use Rattle.simd_json_stages.specs.EscapesAhead.{PlainFrom}

-- the bytes are pieces, from the first on
abbrev pub AreAllPieces : List ℕ → Type 0
AreAllPieces bs = (read_pieces 0 bs).1 ≡ []

-- if the bytes from the one index on are pieces, so are those from the other on
abbrev pub PassesFrom : List ℕ → ℕ → ℕ → Type 0
PassesFrom b from end = AreAllPieces (drop end b) → AreAllPieces (drop from b)

abbrev pub is_backslash : ℕ → Bool
is_backslash c = c == backslash

-- from the one index on the next backslash is at the index that is found, or there is none before the end, which is found
pub record IsBackslashOrEnd (b : List ℕ) (from end found : ℕ) : Type 0 where
  pub later : from ≤ found
  pub within : found ≤ end
  pub plain : PlainFrom b from found
  pub there : found < end → byte_at b found ≡ backslash

module _ (b is : List ℕ) where
  -- no string at these indexes has a fault
  abbrev pub AreStringsRead : Type 0
  AreStringsRead = (k : ℕ) → k < length is → byte_at b (slice_index is k) ≡ quote
      → (s : List ℕ × ℕ) × (string_at b (slice_index is k) ≡ Ok s)

  -- By numbers of indexes: a value is read at the one, in which so many containers may be open, and the token after it
  -- is at the other,
  abbrev pub IsValue : ℕ → ℕ → ℕ → Type 0
  IsValue levels at end = (d : Document)
      × (value_from b (fault_at b Syntax 0) levels (tokens_along b (drop at is)) ≡ Ok (d, tokens_along b (drop end is)))

  -- and so are the elements of an array
  abbrev pub IsElements : ℕ → ℕ → ℕ → Type 0
  IsElements levels at end = let missing = fault_at b Syntax 0 in (es : Elements)
      × (array_from b missing (value_from b missing levels) (tokens_along b (drop at is)) ≡ Ok (es, tokens_along b (drop end is)))

  -- and the members of an object.
  abbrev pub IsMembers : ℕ → ℕ → ℕ → Type 0
  IsMembers levels at end = let missing = fault_at b Syntax 0 in (ms : Members)
      × (object_from b missing (value_from b missing levels) (tokens_along b (drop at is)) ≡ Ok (ms, tokens_along b (drop end is)))
