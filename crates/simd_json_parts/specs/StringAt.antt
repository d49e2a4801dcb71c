-- A string at an index (RFC 8259, section 7). It ends at the next real quote. Of its content the longest prefix is
-- read that is pieces, as the string of their characters: so says a law. If that is not the whole, a backslash
-- follows, and the fault is there, with the byte after it. Faults rest on it. A byte that is no backslash is taken
-- as it is: that no control byte is inside, and that all is UTF-8, is asked of the whole input before.
use Rattle.std.specs.Prelude.{ℕ, zero, suc, ◌+◌, ◌-◌, List, [], ◌∷◌, ◌++◌, length, drop, slice_range, ◌&&◌, ◌==◌}
use Rattle.std.specs.Prelude.{Option, Some, None, Result, Ok, Err, if◌then◌else◌, encode_utf8}
use Rattle.std.specs.List.{position_or_len, range_with_len}
use Rattle.simd_json_parts.specs.Bytes.{backslash, byte_at, lower_u}
use Rattle.simd_json_parts.specs.Strings.{escaped_character, hex_value, is_high_surrogate, is_low_surrogate, paired}
use Rattle.simd_json_parts.specs.Positions.{is_real_quote}
use Rattle.simd_json_parts.specs.Faults.{fault_with}
use Rattle.simd_json_parts.specs.declared.error.Error.{Error}
use Rattle.simd_json_parts.specs.declared.error.ErrorType.TheVariants.{InvalidEscape, InvalidUnicodeCodepoint}

-- the code unit of a \u escape at the front
abbrev pub code_unit_at : List ℕ → Option ℕ
code_unit_at (s ∷ u ∷ a ∷ b ∷ c ∷ d ∷ _) = if (s == backslash) && (u == lower_u) then hex_value a b c d else None
code_unit_at _ = None

-- ---- one piece: the bytes that it stands for, and how many bytes of it follow its first

-- a backslash and a letter
abbrev pub simple_piece : Option ℕ → Option (List ℕ × ℕ)
simple_piece None = None
simple_piece (Some c) = Some (encode_utf8 c, 1)

-- the code units of two surrogates
abbrev pub pair_piece : ℕ → Option ℕ → Option (List ℕ × ℕ)
pair_piece high None = None
pair_piece high (Some low) = if is_low_surrogate low then Some (encode_utf8 (paired high low), 11) else None

-- one code unit, with the one after it if there is one
abbrev pub unicode_piece : Option ℕ → Option ℕ → Option (List ℕ × ℕ)
unicode_piece None second = None
unicode_piece (Some u) second =
    if is_high_surrogate u then pair_piece u second
    else if is_low_surrogate u then None
    else Some (encode_utf8 u, 5)

-- at a backslash
abbrev pub escape_at : List ℕ → Option (List ℕ × ℕ)
escape_at bs =
    if byte_at bs 1 == lower_u then unicode_piece (code_unit_at bs) (code_unit_at (drop 6 bs))
    else simple_piece (escaped_character (byte_at bs 1))

-- the piece at the front of a content; a byte that is no backslash stands for itself
unfoldable pub piece_at : List ℕ → Option (List ℕ × ℕ)
piece_at bs = if byte_at bs 0 == backslash then escape_at bs else Some (byte_at bs 0 ∷ [], 0)

-- ---- the longest prefix

-- a piece and what is read after it, or the content where none stands
abbrev pub with_piece : Option (List ℕ × ℕ) → List ℕ → (ℕ → List ℕ × List ℕ) → List ℕ × List ℕ
with_piece None content more = ([], content)
with_piece (Some p) content more = let rest = more p.1 in (p.0 ++ rest.0, rest.1)

-- The string of the longest prefix that is a list of pieces, and what is left. The first bytes, as many as `skip`,
-- are of a piece before.
unfoldable pub read_pieces : ℕ → List ℕ → List ℕ × List ℕ
read_pieces skip [] = ([], [])
read_pieces (suc skip) (x ∷ xs) = read_pieces skip xs
read_pieces zero (x ∷ xs) = with_piece (piece_at (x ∷ xs)) (x ∷ xs) (λ n. read_pieces n xs)

-- ---- the string

-- the next real quote after index i, or the end
unfoldable pub closing_quote : List ℕ → ℕ → ℕ
closing_quote b i = suc i + position_or_len (is_real_quote b) (range_with_len (suc i) (length b - suc i))

-- at the backslash, with the byte after it
abbrev pub escape_fault : ℕ → ℕ → Error
escape_fault i letter = fault_with (if letter == lower_u then InvalidUnicodeCodepoint else InvalidEscape) i letter

-- the content up to end is read; what is left of it begins with a backslash
abbrev pub string_read : List ℕ × List ℕ → ℕ → Result (List ℕ × ℕ) Error
string_read (t, []) end = Ok (t, suc end)
string_read (t, x ∷ left) end = Err (escape_fault (end - length (x ∷ left)) (byte_at left 0))

-- the string whose opening quote stands at index i
unfoldable pub string_at : List ℕ → ℕ → Result (List ℕ × ℕ) Error
string_at b i = string_read (read_pieces 0 (slice_range b (suc i) (closing_quote b i))) (closing_quote b i)
