-- A JSON Pointer a token at a time (RFC 6901, section 3). Calls that go through its tokens cite it.
use Rattle.std.specs.Prelude.{◌≡◌, ◌≢◌, ◌<◌, ◌≤◌, ◌+◌, ◌==◌, ◌^◌, ℕ, List, [], ◌∷◌, length, drop, slice_index, nat_lt, if◌then◌else◌}
use Rattle.std.specs.Prelude.{Bool, not, ◌||◌, Option, Some, None, Result, Ok, Err}
use Rattle.std.specs.List.{slice_range}
use Rattle.simd_json_parts.specs.Bytes.{slash}
use Rattle.simd_json_parts.specs.Document.{Document}
use Rattle.simd_json_parts.specs.Pointed.{tokens, tilde, named}
use Rattle.simd_json_parts.specs.declared.pointer.PointerExpected.{PointerExpected}
use Rattle.simd_json_parts.specs.declared.pointer.PointerExpected.TheVariants as lacking

-- the tokens of what is left of a pointer after one of them
abbrev pub tokens_after : List ℕ → List (List ℕ)
tokens_after [] = []
tokens_after (c ∷ p) = tokens p

abbrev pub first_of : List (List ℕ) → List ℕ
first_of [] = []
first_of (t ∷ ts) = t

-- where the first token of what is left leads
abbrev pub first_step : List ℕ → Document → Result Document PointerExpected
first_step [] d = Ok d
first_step (c ∷ p) d = if c == slash then named (first_of (tokens p)) d else Err lacking.Slash

-- the `/` at an index of a pointer begins a token that ends at another
pub record IsTokenAt (p : List ℕ) (i e : ℕ) : Type 0 where
  pub begins : (i < length p) × (slice_index p i ≡ slash)
  pub within : (i < e) × (e ≤ length p)
  pub split : tokens_after (drop i p) ≡ slice_range p (i + 1) e ∷ tokens_after (drop e p)
  pub goes_on : e < length p → slice_index p e ≡ slash

-- where each of the tokens ends, of which the first begins after byte i of the pointer
abbrev pub ends_from : ℕ → List (List ℕ) → List ℕ
ends_from i [] = []
ends_from i (t ∷ ts) = (i + 1 + length t) ∷ ends_from (i + 1 + length t) ts

-- a token without escapes
abbrev pub IsPlain : List ℕ → Type 0
IsPlain t = (k : ℕ) → k < length t → slice_index t k ≢ tilde

abbrev pub is_tilde : ℕ → Bool
is_tilde c = c == tilde

-- a byte that is one of two, and one that is neither
abbrev pub is_either : ℕ → ℕ → ℕ → Bool
is_either a b x = (x == a) || (x == b)

abbrev pub is_neither : ℕ → ℕ → ℕ → Bool
is_neither a b x = not (is_either a b x)

abbrev pub fits_64 : ℕ → Option ℕ
fits_64 n = if nat_lt n (2 ^ 64) then Some n else None
