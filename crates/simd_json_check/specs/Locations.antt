-- Where an input is wrong, for people: the byte, the line and the column of an error.
use Rattle.std.specs.Prelude.{ℕ, suc, ◌+◌, ◌-◌, ◌^◌, min, List, length, take, count_by, Bool, ◌&&◌, ◌||◌, ◌==◌, nat_lt, nat_le, Some, None, Option}
use Rattle.std.specs.List.{after_last, position_or_len}
use Rattle.std.specs.Str.Lossy.{utf8_valid_len}
use Rattle.simd_json_parts.specs.Bytes.{line_feed, is_control, byte_at, indices}
use Rattle.simd_json_parts.specs.Limits.{max_length}
use Rattle.simd_json_parts.specs.Positions.{is_real_quote, real_quotes, is_inside, is_position}
use Rattle.simd_json_parts.specs.declared.error.Error.{Error}
use Rattle.simd_json_parts.specs.declared.error.ErrorType.{ErrorType}
use Rattle.simd_json_parts.specs.declared.error.ErrorType.TheVariants as errors

-- ---- lines and columns

abbrev pub is_line_feed : ℕ → Bool
is_line_feed c = c == line_feed

-- each byte of a character but its first is from 0x80 to 0xbf (RFC 3629, section 3)
abbrev pub begins_character : ℕ → Bool
begins_character c = nat_lt c 0x80 || nat_le 0xc0 c

-- the line of byte i: from 1, by line feeds
abbrev pub line_at : List ℕ → ℕ → ℕ
line_at b i = count_by is_line_feed (take i b) + 1

-- the line of a file, as far as 64 bits hold it, of a line of a text that begins in line `first`
abbrev pub file_line : ℕ → ℕ → ℕ
file_line first line = min (first + (line - 1)) (2 ^ 64 - 1)

-- what stands before byte i in its line
abbrev pub line_before : List ℕ → ℕ → List ℕ
line_before b i = after_last is_line_feed (take i b)

-- the column of byte i: from 1, in characters
abbrev pub column_of : List ℕ → ℕ → ℕ
column_of b i = count_by begins_character (line_before b i) + 1

-- ---- bytes

-- the first index of b that passes, or the length of b where none does
abbrev pub first_index : (ℕ → Bool) → List ℕ → ℕ
first_index test b = position_or_len test (indices b)

-- a control byte inside a string
abbrev pub is_control_inside : List ℕ → ℕ → Bool
is_control_inside b i = is_inside b i && is_control (byte_at b i)

-- the opening quote of the string that is left open: no real quote follows it
abbrev pub is_left_open : List ℕ → ℕ → Bool
is_left_open b i = is_real_quote b i && is_inside b i && (real_quotes b (suc i) == real_quotes b (length b))

-- whichever of the two a scan from the left meets first
unfoldable pub bad_string : List ℕ → ℕ
bad_string b = first_index (λ i. is_control_inside b i || is_left_open b i) b

-- the structural index after index i, or the length of b where there is none
abbrev pub next_position : List ℕ → ℕ → ℕ
next_position b i = first_index (λ k. nat_lt i k && is_position b k) b

-- Of an error without a character: the first byte too many, the first that begins no UTF-8 character, what is wrong
-- with a string, the end of an input of whitespace. Another kind is where it says.
abbrev pub whole_place : List ℕ → ℕ → ErrorType → ℕ
whole_place b i errors.InputTooLarge = max_length
whole_place b i errors.InvalidUtf8 = utf8_valid_len b
whole_place b i errors.Syntax = bad_string b
whole_place b i errors.Eof = length b
whole_place b i _ = i

abbrev pub place_with : List ℕ → ℕ → Option ℕ → ErrorType → ℕ
place_with b i None kind = whole_place b i kind
place_with b i (Some c) kind = i

-- the byte that an error of the input b is at: with a character, its index
unfoldable pub place_of : List ℕ → Error → ℕ
place_of b e = place_with b e.index e.character e.error
