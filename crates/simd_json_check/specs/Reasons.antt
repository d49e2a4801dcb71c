-- Why an input is rejected, for people: what was expected there, and what was found. Of a token's error the reason
-- goes by the bytes around its index alone.
use Rattle.std.specs.Prelude.{ℕ, zero, suc, ◌-◌, List, drop, Bool, true, not, ◌&&◌, ◌||◌, ◌==◌, nat_le, if◌then◌else◌, Option, Some, None}
use Rattle.std.specs.Char.{is_ascii_digit, is_digit}
use Rattle.std.specs.Option.{option_map}
use Rattle.std.specs.Result.{result_err}
use Rattle.std.specs.Str.Lossy.{utf8_valid_len}
use Rattle.simd_json_check.specs.Locations.{is_control_inside, bad_string, next_position, place_of, line_at, column_of, file_line}
use Rattle.simd_json_check.specs.Openings.{opening_in, opening_of}
use Rattle.simd_json_check.specs.declared.location.Location.{Location}
use Rattle.simd_json_check.specs.declared.location.reason.Reason.{Reason}
use Rattle.simd_json_check.specs.declared.location.reason.Reason.TheVariants as reasons
use Rattle.simd_json_parts.specs.Answer.{answer}
use Rattle.simd_json_parts.specs.Bytes.{colon, comma, left_bracket, right_bracket, left_brace}
use Rattle.simd_json_parts.specs.Bytes.{right_brace, is_whitespace, is_terminator, byte_at}
use Rattle.simd_json_parts.specs.declared.error.Error.{Error}
use Rattle.simd_json_parts.specs.declared.error.ErrorType.{ErrorType}
use Rattle.simd_json_parts.specs.declared.error.ErrorType.TheVariants as errors

-- ---- what the bytes around an index say

-- U+FEFF at the beginning (RFC 8259, section 8.1; RFC 3629, section 6)
abbrev pub is_byte_order_mark : List ℕ → ℕ → Bool
is_byte_order_mark b i = (i == 0) && (byte_at b 0 == 0xef) && (byte_at b 1 == 0xbb) && (byte_at b 2 == 0xbf)

-- the last byte before index i that is no whitespace
unfoldable pub byte_before : List ℕ → ℕ → Option ℕ
byte_before b zero = None
byte_before b (suc i) = if is_whitespace (byte_at b i) then byte_before b i else Some (byte_at b i)

-- a value is expected after this byte, where c is found: at the root, after a comma or a colon, and first in an array
abbrev pub expects_value : Option ℕ → ℕ → Bool
expects_value None c = true
expects_value (Some before) c =
    (before == comma) || (before == colon) || ((before == left_bracket) && not (c == right_bracket))

-- a bracket that closes the root
abbrev pub closes_root : List ℕ → ℕ → Bool
closes_root b i =
    ((byte_at b i == right_bracket) || (byte_at b i == right_brace))
    && not (expects_value (byte_before b i) (byte_at b i))

-- Two digits, and then a digit or the end of the number. A number is rejected after two digits where it is an integer
-- that is too great: a malformed one is rejected at a byte that no number has there, or after a single 0.
abbrev pub ends_range : List ℕ → ℕ → Bool
ends_range b i =
    nat_le 2 i && is_ascii_digit (byte_at b (i - 2)) && is_ascii_digit (byte_at b (i - 1))
    && (is_ascii_digit (byte_at b i) || is_terminator (byte_at b i))

-- the `\u` that a text begins with has its four hexadecimal digits
abbrev pub has_hex_digits : List ℕ → Bool
has_hex_digits text =
    is_digit (byte_at text 2) 16 && is_digit (byte_at text 3) 16
    && is_digit (byte_at text 4) 16 && is_digit (byte_at text 5) 16

-- ---- reasons

-- of an error without a character
abbrev pub whole_reason : List ℕ → ErrorType → Reason
whole_reason b errors.InputTooLarge = reasons.TooLarge
whole_reason b errors.InsufficientPadding = reasons.TooLittlePadding
whole_reason b errors.OutOfMemory = reasons.OutOfMemory
whole_reason b errors.InvalidUtf8 = reasons.NotUtf8 (byte_at b (utf8_valid_len b))
whole_reason b errors.Syntax =
    if is_control_inside b (bad_string b) then reasons.ControlCharacter (byte_at b (bad_string b))
    else reasons.OpenString
whole_reason b errors.Eof = reasons.Blank
whole_reason b _ = reasons.Other

-- where a value is expected, or more text follows the root
abbrev pub value_reason : List ℕ → ℕ → Reason
value_reason b i =
    if is_byte_order_mark b i then reasons.ByteOrderMark
    else if closes_root b i then reasons.MoreText
    else reasons.ExpectedValue (byte_at b i)

-- in an object: after its brace, or after a member
abbrev pub object_reason : Option ℕ → ℕ → Reason
object_reason None c = reasons.ExpectedMemberEnd c
object_reason (Some before) c =
    if before == left_brace then reasons.ExpectedFirstKey c else reasons.ExpectedMemberEnd c

-- of an error with a character
abbrev pub token_reason : List ℕ → ℕ → ErrorType → Reason
token_reason b i errors.InternalError = value_reason b i
token_reason b i errors.ExpectedArrayContent = reasons.ExpectedElementEnd (byte_at b i)
token_reason b i errors.ExpectedObjectContent = object_reason (byte_before b i) (byte_at b i)
token_reason b i errors.ExpectedObjectKey = reasons.ExpectedKey (byte_at b i)
token_reason b i errors.ExpectedObjectColon = reasons.ExpectedColon (byte_at b i)
token_reason b i errors.Syntax = reasons.EndOfInput
token_reason b i errors.TrailingData = reasons.MoreText
token_reason b i errors.DepthLimitExceeded = reasons.TooDeep
token_reason b i errors.ExpectedTrue = reasons.ExpectedTrue
token_reason b i errors.ExpectedFalse = reasons.ExpectedFalse
token_reason b i errors.ExpectedNull = reasons.ExpectedNull
token_reason b i errors.InvalidNumber = if ends_range b i then reasons.IntegerOutOfRange else reasons.MalformedNumber
token_reason b i errors.InvalidEscape = reasons.UnknownEscape (byte_at (drop i b) 1)
token_reason b i errors.InvalidUnicodeCodepoint =
    if has_hex_digits (drop i b) then reasons.LoneSurrogate else reasons.MalformedUnicodeEscape
token_reason b i _ = reasons.Other

abbrev pub reason_with : List ℕ → ℕ → Option ℕ → ErrorType → Reason
reason_with b i None kind = whole_reason b kind
reason_with b i (Some c) kind = token_reason b i kind

unfoldable pub reason_of : List ℕ → Error → Reason
reason_of b e = reason_with b e.index e.character e.error

-- ---- the error, its place and its reason

-- a parse names the last token of the document where more text follows it; people are shown the first byte of that text
abbrev pub shown_byte : List ℕ → Error → Reason → ℕ
shown_byte b e reasons.MoreText = next_position b e.index
shown_byte b e _ = place_of b e

abbrev pub located : List ℕ → Error → Reason → ℕ → Location
located b e reason byte =
    record {
      error = e;
      byte = byte;
      line = line_at b byte;
      column = column_of b byte;
      reason = reason;
      opening = opening_of b byte reason;
    }

unfoldable pub location_of : List ℕ → Error → Location
location_of b e = located b e (reason_of b e) (shown_byte b e (reason_of b e))

-- in a file of which the input begins in line `first`
abbrev pub location_in : ℕ → Location → Location
location_in first l = record {
  error = l.error;
  byte = l.byte;
  line = file_line first l.line;
  column = l.column;
  reason = l.reason;
  opening = option_map (opening_in first) l.opening;
}

-- a parse has two kinds for more text after the document, by what its root is; people are shown one
abbrev pub shown_kind : Reason → ErrorType → ErrorType
shown_kind reasons.MoreText kind = errors.TrailingData
shown_kind _ kind = kind

-- what is found in an input: the location of its error, if it has one
abbrev pub found_in : List ℕ → ℕ → Option Location
found_in b limit = option_map (location_of b) (result_err (answer b limit))
