-- The tokens of b (RFC 8259, section 2), up to the first that is none: each begins at the next byte that is no
-- whitespace. Faults rest on it.
use Rattle.std.specs.Prelude.{ℕ, zero, suc, ◌-◌, List, [], ◌∷◌, ◌||◌, ◌==◌, Option, Some, None, Result, Ok, Err, if◌then◌else◌}
use Rattle.std.specs.Char.{is_ascii_digit}
use Rattle.std.specs.Option.{option_map_or}
use Rattle.simd_json_parts.specs.Bytes.{quote, comma, minus_sign, colon, left_bracket, right_bracket, lower_f, lower_n}
use Rattle.simd_json_parts.specs.Bytes.{lower_t, left_brace, right_brace, is_whitespace, byte_at}
use Rattle.simd_json_parts.specs.Document.{Document}
use Rattle.simd_json_parts.specs.AtomAt.{atom_at}
use Rattle.simd_json_parts.specs.NumberAt.{number_at}
use Rattle.simd_json_parts.specs.StringAt.{string_at}
use Rattle.simd_json_parts.specs.declared.error.Error.{Error}

-- A string and a scalar are read, or have a fault. A stray token begins no value and is no structural character.
pub data Form : Type 0 where
  begin_array end_array begin_object end_object name_separator value_separator : Form
  string_token : Result (List ℕ × ℕ) Error → Form
  scalar : Result (Document × ℕ) Error → Form
  stray : Form

pub record Token : Type 0 where
  pub index : ℕ
  pub form : Form

-- the form of a token at index i, by its first byte
abbrev pub form_of : List ℕ → ℕ → ℕ → Form
form_of b i c =
    if c == left_bracket then begin_array
    else if c == right_bracket then end_array
    else if c == left_brace then begin_object
    else if c == right_brace then end_object
    else if c == colon then name_separator
    else if c == comma then value_separator
    else if c == quote then string_token (string_at b i)
    else if (c == lower_t) || (c == lower_f) || (c == lower_n) then scalar (atom_at b i)
    else if (c == minus_sign) || is_ascii_digit c then scalar (number_at b i)
    else stray

unfoldable pub form_at : List ℕ → ℕ → Form
form_at b i = form_of b i (byte_at b i)

-- The index after a token of this form at index i. One that has a fault has no end, nor has a stray one: after it
-- no token is read.
abbrev pub form_end : ℕ → Form → Option ℕ
form_end i (string_token (Ok r)) = Some r.1
form_end i (string_token (Err e)) = None
form_end i (scalar (Ok r)) = Some r.1
form_end i (scalar (Err e)) = None
form_end i stray = None
form_end i _ = Some (suc i)

abbrev pub token_end : Token → Option ℕ
token_end t = form_end t.index t.form

-- what comes after a token at index i, from its end on; `more n` passes over n bytes after its first
abbrev pub after_token : ℕ → Form → (ℕ → List Token) → List Token
after_token i form more = option_map_or (λ end. more (end - suc i)) (form_end i form) []

-- the token at index i, unless whitespace stands there, and what comes after
abbrev pub token_or_space : List ℕ → ℕ → ℕ → (ℕ → List Token) → List Token
token_or_space b i x more =
    if is_whitespace x then more 0 else let form = form_at b i in record { index = i; form = form } ∷ after_token i form more

-- those in bs, which stands at index i of b; the first bytes, as many as `skip`, are of a token before
unfoldable pub tokens_from : List ℕ → ℕ → ℕ → List ℕ → List Token
tokens_from b i skip [] = []
tokens_from b i (suc skip) (x ∷ bs) = tokens_from b (suc i) skip bs
tokens_from b i zero (x ∷ bs) = token_or_space b i x (λ n. tokens_from b (suc i) n bs)

abbrev pub tokens : List ℕ → List Token
tokens b = tokens_from b 0 0 b
