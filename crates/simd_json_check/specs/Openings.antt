-- What is open at the place of an error, and where it begins.
use Rattle.std.specs.Prelude.{ℕ, zero, suc, ◌-◌, List, length, take, ◌||◌, ◌==◌, nat_lt, if◌then◌else◌}
use Rattle.std.specs.Prelude.{Option, Some, None, option_map}
use Rattle.simd_json_check.specs.Locations.{column_of, file_line, first_index, is_left_open, line_at}
use Rattle.simd_json_check.specs.declared.location.opening.Opened.{Opened}
use Rattle.simd_json_check.specs.declared.location.opening.Opened.TheVariants as openeds
use Rattle.simd_json_check.specs.declared.location.opening.Opening.{Opening}
use Rattle.simd_json_check.specs.declared.location.reason.Reason.{Reason}
use Rattle.simd_json_check.specs.declared.location.reason.Reason.TheVariants.{ControlCharacter, EndOfInput}
use Rattle.simd_json_parts.specs.Bytes.{byte_at, left_brace, left_bracket, right_brace, right_bracket}
use Rattle.simd_json_parts.specs.Positions.{is_inside}

-- how many containers are open after a byte outside strings (RFC 8259, section 2)
abbrev pub open_after : ℕ → ℕ → ℕ
open_after c n =
    if (c == left_bracket) || (c == left_brace) then suc n
    else if (c == right_bracket) || (c == right_brace) then n - 1
    else n

-- before byte i
unfoldable pub open_before : List ℕ → ℕ → ℕ
open_before b zero = 0
open_before b (suc i) = if is_inside b i then open_before b i else open_after (byte_at b i) (open_before b i)

-- the last byte before byte i at which fewer than n are open
unfoldable pub last_below : List ℕ → ℕ → ℕ → Option ℕ
last_below b n zero = None
last_below b n (suc i) = if nat_lt (open_before b i) n then Some i else last_below b n i

-- the bracket of the innermost container that is open at the end: after it no fewer are open
abbrev pub open_bracket : List ℕ → Option ℕ
open_bracket b = last_below b (open_before b (length b)) (length b)

-- what begins with this byte
abbrev pub opened_by : ℕ → Opened
opened_by c = if c == left_bracket then openeds.Array else if c == left_brace then openeds.Object else openeds.String

abbrev pub opening_at : List ℕ → ℕ → Opening
opening_at b i = record { opened = opened_by (byte_at b i); line = line_at b i; column = column_of b i }

-- At a control character: the string that the bytes before it leave open. At the end: the container.
abbrev pub opening_of : List ℕ → ℕ → Reason → Option Opening
opening_of b byte (ControlCharacter c) = Some (opening_at b (first_index (is_left_open (take byte b)) (take byte b)))
opening_of b byte EndOfInput = option_map (opening_at b) (open_bracket b)
opening_of b byte _ = None

-- of a text that begins in this line of a file
abbrev pub opening_in : ℕ → Opening → Opening
opening_in first o = record { opened = o.opened; line = file_line first o.line; column = o.column }
