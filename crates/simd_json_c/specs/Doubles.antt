-- A number as it is written, and the double that it is read as (RFC 8259, section 6).
use Rattle.std.specs.Prelude.{◌≡◌, ◌<◌, ◌⊎◌, ℕ, ℤ, pos, List, ◌∷◌, ◌++◌, length, get_or, Ok, Some}
use Rattle.std.specs.Float.{binary64}
use Rattle.std.specs.Float.Ieee.{Float}
use Rattle.std.specs.Float.Parse.{parse_float}
use Rattle.std.specs.Str.Parse.{AllDigits, digits_value}
use Rattle.simd_json_parts.specs.Document.{Document}
use Rattle.simd_json_parts.specs.NumberAt.{number_at}
use Rattle.simd_json_c.specs.Statuses.{invalid_number}

-- the bytes are one number, to their end
abbrev pub IsNumber : List ℕ → Type 0
IsNumber b = (d : Document) × (number_at b 0 ≡ Ok (d, length b))

-- the nearest double is put, or the bytes are no number and nothing is
abbrev pub IsDoublePut : List ℕ → ℤ → Float → Float → Type 0
IsDoublePut b status old new =
    (IsNumber b × (status ≡ pos 0) × (parse_float binary64 b ≡ Some new))
    ⊎ ((IsNumber b → ⊥) × (status ≡ invalid_number) × (new ≡ old))

-- digits, a point and k digits, which without the point spell n; a 0 at the front is alone
pub record IsFixedPoint (b : List ℕ) (n k : ℕ) : Type 0 where
  pub whole : List ℕ
  pub behind : List ℕ
  pub parts : b ≡ whole ++ 46 ∷ behind
  pub digits : AllDigits 10 whole
  pub places : AllDigits 10 behind
  pub some : 0 < length whole
  pub alone : get_or whole 0 0 ≡ 48 → length whole ≡ 1
  pub more : 0 < length behind
  pub value : n ≡ digits_value 10 (whole ++ behind)
  pub count : k ≡ length behind
