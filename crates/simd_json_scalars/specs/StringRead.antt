-- What a reader of strings returns of the string at an index. It serves proofs: contracts of laws and readers cite it.
use Rattle.std.specs.Prelude.{◌≡◌, ℕ, ◌+◌, List, drop, slice_range, IsUtf8, Result, Ok, Err}
use Rattle.simd_json_parts.specs.Faults.{error_of}
use Rattle.simd_json_parts.specs.declared.error.Error.{Error}
use Rattle.simd_json_parts.specs.StringAt.{string_at, escape_fault}
use Rattle.simd_json_scalars.specs.declared.stringparse.DecodedString.{DecodedString}
use Rattle.simd_json_scalars.specs.declared.stringparse.ParsedString.{ParsedString}
use Rattle.simd_json_scalars.specs.declared.stringparse.BadEscape.{BadEscape}

-- a result, for bytes that begin i bytes further on
abbrev pub further : ℕ → Result (List ℕ × ℕ) Error → Result (List ℕ × ℕ) Error
further i (Ok (string, end)) = Ok (string, i + end)
further i (Err e) = Err (error_of (i + e.index) e.character e.error)

-- the string, how many bytes it was written in, and the bytes after it as they stood; or the backslash of the leftmost
-- bad escape, how far after the index, with the byte after it
abbrev pub IsStringAt : List ℕ → ℕ → Result ParsedString BadEscape → Type 0
IsStringAt b i (Ok t) = (string_at b i ≡ Ok (t.string.now, i + t.len)) × (t.rest.now ≡ drop (i + t.len) b)
IsStringAt b i (Err bad) = string_at b i ≡ Err (escape_fault (i + bad.offset) bad.letter)

-- The bytes from the index on are now `new`. They begin with the opening quote and the decoded string, which is UTF-8, and after
-- the bytes that it was written in they are as they were.
pub record IsDecodedIn (b : List ℕ) (i : ℕ) (new : List ℕ) (t : DecodedString) : Type 0 where
  pub string : string_at b i ≡ Ok (slice_range new 1 t.end, i + t.len)
  pub utf8 : IsUtf8 (slice_range new 1 t.end)
  pub rest : drop t.len new ≡ drop (i + t.len) b

-- the same of the leftmost bad escape
abbrev pub IsStringIn : List ℕ → ℕ → List ℕ → Result DecodedString BadEscape → Type 0
IsStringIn b i new (Ok t) = IsDecodedIn b i new t
IsStringIn b i new (Err bad) = string_at b i ≡ Err (escape_fault (i + bad.offset) bad.letter)
