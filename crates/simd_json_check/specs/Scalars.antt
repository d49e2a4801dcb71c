-- What is at an index as a string or a scalar, whole and with what must follow it, whether or not the bytes are a document.
use Rattle.std.specs.Prelude.{ℕ, Bool, ◌||◌, ◌==◌, Option, Some, None, Ok}
use Rattle.std.specs.Char.{is_ascii_digit}
use Rattle.simd_json_parts.specs.Bytes.{minus_sign}
use Rattle.simd_json_parts.specs.Document.{Document, string}
use Rattle.simd_json_parts.specs.Tokens.{Form, string_token, scalar}

abbrev pub scalar_of : Form → Option Document
scalar_of (string_token (Ok s)) = Some (string s.0)
scalar_of (scalar (Ok s)) = Some s.0
scalar_of _ = None

-- whether a token with this first byte is a number, or should be one
abbrev pub begins_number : ℕ → Bool
begins_number c = (c == minus_sign) || is_ascii_digit c
