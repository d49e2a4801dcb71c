-- A string that is decoded in the bytes it was written in: how far it is read, and how far it is written. It serves
-- proofs: only the crate's private clauses cite it.
use Rattle.std.specs.Prelude.{◌≡◌, ◌≤◌, ◌<◌, ℕ, ◌+◌, List, ◌∷◌, ◌++◌, length, take, drop, suc, IsUtf8}
use Rattle.simd_json_parts.specs.Bytes.{backslash}
use Rattle.simd_json_parts.specs.StringAt.{read_pieces}
use Rattle.simd_json_scalars.specs.StringContent.{content, with_prefix}
use Rattle.simd_json_scalars.specs.declared.stringparse.BadEscape.{BadEscape}

-- from index r on, a closing quote follows, and the bytes are UTF-8
pub record IsOpen (bs : List ℕ) (r : ℕ) : Type 0 where
  pub closed : r + length (content (drop r bs)) < length bs
  pub utf8 : IsUtf8 (drop r bs)

-- The bytes `old`, read up to r and written up to w, have become `new`, read up to s and written up to v. What was
-- read is the string that was written; nothing is written ahead of what was read, and nothing after it has changed.
pub record IsDecoded (old : List ℕ) (r w : ℕ) (new : List ℕ) (s v : ℕ) : Type 0 where
  pub string : List ℕ
  pub reads : read_pieces 0 (content (drop r old)) ≡ with_prefix string (read_pieces 0 (content (drop s old)))
  pub size : r + length (content (drop r old)) ≡ s + length (content (drop s old))
  pub written : take v new ≡ take w old ++ string
  pub unread : drop s new ≡ drop s old
  pub same_length : length new ≡ length old
  pub forward : r ≤ s
  pub grows : w ≤ v
  pub order : v ≤ s
  pub is_string : IsUtf8 string
  pub goes_on : IsOpen old s

-- of the content from index r on, what is left begins with the backslash of a bad escape
abbrev pub IsLeft : List ℕ → ℕ → BadEscape → Type 0
IsLeft bs r bad = (string : List ℕ) × (left : List ℕ)
    × (read_pieces 0 (content (drop r bs)) ≡ (string, backslash ∷ bad.letter ∷ left))
    × (bad.offset + suc (suc (length left)) ≡ r + length (content (drop r bs)))
