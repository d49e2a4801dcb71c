-- A key as it is compared with strings. It serves proofs: only the crate's private clauses cite it.
use Rattle.std.specs.Prelude.{◌≡◌, ◌≢◌, ◌<◌, ◌≤◌, ◌%◌, ℕ, List, [], ◌∷◌, length, get_or, Bool, true, false}
use Rattle.std.specs.Prelude.{Option, Some, None, Result, Ok, Err, IsTrue, bytes_eq, if◌then◌else◌}
use Rattle.std.specs.List.{slice_get, slice_range}
use Rattle.simd_json_parts.specs.Bytes.{quote}
use Rattle.simd_json_parts.specs.declared.error.Error.{Error}
use Rattle.simd_json_parts.specs.Followed.{IsPlain, IsTokenAt}
use Rattle.simd_json_parts.specs.Pointed.{unescaped}
use Rattle.simd_json_scalars.specs.StringContent.{is_plain}

-- the string that is read, if one is
abbrev pub read_string : Result (List ℕ × ℕ) Error → Option (List ℕ)
read_string (Ok r) = Some r.0
read_string (Err e) = None

-- the key: the bytes themselves, or what they are as a reference token of a JSON Pointer
abbrev pub key_of : Bool → List ℕ → Option (List ℕ)
key_of true token = unescaped token
key_of false key = Some key

-- whether pieces are read to their end, as the key
abbrev pub names : List ℕ → List ℕ × List ℕ → Bool
names key (t, []) = bytes_eq t key
names key (t, x ∷ left) = false

-- the first eight bytes of the key, and quotes after its end; whether they have neither a quote nor a backslash
pub record IsWanted (key first : List ℕ) (plain : Bool) : Type 0 where
  pub lanes : (k : ℕ) → k < 8 → get_or first k 0 ≡ get_or key k quote
  pub size : length first ≡ 8
  pub plain_key : IsTrue plain → (k : ℕ) → k < 8 → k < length key → is_plain (get_or key k quote) ≡ true

-- two lists have k first elements in common, and no more
pub record AgreesTo (xs ys : List ℕ) (k : ℕ) : Type 0 where
  pub bound : k ≤ length xs
  pub same : (j : ℕ) → j < k → get_or xs j 0 ≡ get_or ys j 0
  pub other : k < length xs → get_or xs k 0 ≢ get_or ys k 0

-- the first reference token of a JSON Pointer ends here, and is the key as it stands
pub record IsKeyed (text : List ℕ) (end : ℕ) (first : List ℕ) (plain : Bool) : Type 0 where
  pub at : IsTokenAt text 0 end
  pub is_plain : IsPlain (slice_range text 1 end)
  pub wanted : IsWanted (slice_range text 1 end) first plain

-- what was found before, or the member's value, if its key is wanted
abbrev pub noted : {A : Type 0} → Bool → A → Option A → Option A
noted is_wanted value (Some before) = Some before
noted is_wanted value None = if is_wanted then Some value else None

-- for each byte, modulo 64, whether one that is wanted begins with it, or it is a backslash
pub record MayBegin {P : Type 0} (IsWanted : P → Type 0) (first : P → ℕ) (ps : List P) (begins : List Bool) : Type 0 where
  pub size : length begins ≡ 64
  pub escape : get_or begins (92 % 64) false ≡ true
  pub each : (k : ℕ) (p : P) → slice_get ps k ≡ Some p → IsWanted p → get_or begins (first p % 64) false ≡ true
