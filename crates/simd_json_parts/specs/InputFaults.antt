-- The faults of a whole input, before any token is read (RFC 8259, sections 7, 8.1 and 9; RFC 3629). Faults rest on it.
use Rattle.std.specs.Prelude.{ℕ, ◌+◌, List, length, Bool, not, ◌||◌, ◌==◌, nat_lt, Option, Some, None, if◌then◌else◌}
use Rattle.std.specs.Str.{is_utf8}
use Rattle.simd_json_parts.specs.Limits.{max_length}
use Rattle.simd_json_parts.specs.Positions.{is_even, real_quotes, positions, has_control_inside}
use Rattle.simd_json_parts.specs.Faults.{whole_fault}
use Rattle.simd_json_parts.specs.declared.error.Error.{Error}
use Rattle.simd_json_parts.specs.declared.error.ErrorType.TheVariants.{InsufficientPadding, InputTooLarge, InvalidUtf8, Syntax, Eof}

-- some string is left open, or holds a byte below 0x20
abbrev pub has_bad_string : List ℕ → Bool
has_bad_string b = not (is_even (real_quotes b (length b))) || has_control_inside b

-- what a scan of the whole input finds: a bad string, or else no position
abbrev pub scan_fault : List ℕ → Option Error
scan_fault b =
    if has_bad_string b then Some (whole_fault Syntax)
    else if length (positions b) == 0 then Some (whole_fault Eof)
    else None

-- The first that applies, in this order. A byte order mark is not skipped (RFC 8259, section 8.1, lets a parser do
-- so): its bytes are UTF-8, and no token begins with them.
unfoldable pub input_fault : List ℕ → Option Error
input_fault b =
    if nat_lt max_length (length b) then Some (whole_fault InputTooLarge)
    else if not (is_utf8 b) then Some (whole_fault InvalidUtf8)
    else scan_fault b

-- ---- the padded form

-- how many bytes the padded form asks for after its document
abbrev pub input_padding : ℕ
input_padding = 64

-- The padded form is given s, with a document of `len` bytes at its front. It asks for this fault before the others.
abbrev pub padding_fault : List ℕ → ℕ → Option Error
padding_fault s len =
    if nat_lt (length s) (len + input_padding) then Some (whole_fault InsufficientPadding)
    else None
