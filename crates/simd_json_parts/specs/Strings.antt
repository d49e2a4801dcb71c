-- String literals (RFC 8259, section 7; RFC 3629, section 3). Acceptance rests on it.
use Rattle.std.specs.Prelude.{◌≡◌, ◌≢◌, ◌≤◌, ◌⊎◌, ℕ, ◌+◌, ◌-◌, ◌*◌, List, [], ◌∷◌, ◌++◌, Bool, cond, ◌&&◌, ◌||◌, ◌==◌}
use Rattle.std.specs.Prelude.{nat_lt, nat_le, if◌then◌else◌, Option, Some, None, IsTrue, IsFalse, encode_utf8}
use Rattle.std.specs.Prelude.{encode_utf8_all}
use Rattle.std.specs.Char.{digit_value, is_digit, IsScalar}
use Rattle.simd_json_parts.specs.Bytes.{quote, backslash, slash, backspace, tab, line_feed, form_feed, carriage_return}
use Rattle.simd_json_parts.specs.Bytes.{lower_b, lower_f, lower_n, lower_r, lower_t, lower_u}

-- the character of the escape with this letter: \" \\ \/ \b \f \n \r \t
abbrev pub escaped_character : ℕ → Option ℕ
escaped_character x =
    if (x == quote) || (x == backslash) || (x == slash) then Some x
    else if x == lower_b then Some backspace
    else if x == lower_f then Some form_feed
    else if x == lower_n then Some line_feed
    else if x == lower_r then Some carriage_return
    else if x == lower_t then Some tab
    else None

-- the number that four hexadecimal digits spell, in either case
abbrev pub hex_value : ℕ → ℕ → ℕ → ℕ → Option ℕ
hex_value a b c d =
    cond (is_digit a 16 && is_digit b 16 && is_digit c 16 && is_digit d 16)
    (Some (digit_value a * 4096 + digit_value b * 256 + digit_value c * 16 + digit_value d)) None

abbrev pub is_high_surrogate : ℕ → Bool
is_high_surrogate u = nat_le 0xd800 u && nat_lt u 0xdc00

abbrev pub is_low_surrogate : ℕ → Bool
is_low_surrogate u = nat_le 0xdc00 u && nat_lt u 0xe000

-- the code point of a high and a low surrogate
abbrev pub paired : ℕ → ℕ → ℕ
paired high low = 0x10000 + (high - 0xd800) * 1024 + (low - 0xdc00)

-- \u and four digits that spell the code unit
abbrev pub IsCodeUnit : List ℕ → ℕ → Type 0
IsCodeUnit bs u =
    (a : ℕ) × (b : ℕ) × (c : ℕ) × (d : ℕ)
    × (bs ≡ backslash ∷ lower_u ∷ a ∷ b ∷ c ∷ d ∷ []) × (hex_value a b c d ≡ Some u)

-- Each of the four kinds of piece gives one character: the character itself,
abbrev pub IsPlain : List ℕ → ℕ → Type 0
IsPlain bs c = IsScalar c × (32 ≤ c) × (c ≢ quote) × (c ≢ backslash) × (bs ≡ encode_utf8 c)

-- a backslash and a letter,
abbrev pub IsSimpleEscape : List ℕ → ℕ → Type 0
IsSimpleEscape bs c = (letter : ℕ) × (bs ≡ backslash ∷ letter ∷ []) × (escaped_character letter ≡ Some c)

-- its code unit,
abbrev pub IsUnicodeEscape : List ℕ → ℕ → Type 0
IsUnicodeEscape bs c = IsCodeUnit bs c × IsFalse (is_high_surrogate c) × IsFalse (is_low_surrogate c)

-- or the code units of a high and a low surrogate.
abbrev pub IsSurrogatePair : List ℕ → ℕ → Type 0
IsSurrogatePair bs c =
    (xs : List ℕ) × (ys : List ℕ) × (high : ℕ) × (low : ℕ) × (bs ≡ xs ++ ys) × IsCodeUnit xs high × IsCodeUnit ys low
    × IsTrue (is_high_surrogate high) × IsTrue (is_low_surrogate low) × (c ≡ paired high low)

abbrev pub IsPiece : List ℕ → ℕ → Type 0
IsPiece bs c = IsPlain bs c ⊎ IsSimpleEscape bs c ⊎ IsUnicodeEscape bs c ⊎ IsSurrogatePair bs c

-- the bytes are pieces for these characters, in order
abbrev pub ArePieces : List ℕ → List ℕ → Type 0
ArePieces bs [] = bs ≡ []
ArePieces bs (c ∷ cs) = (xs : List ℕ) × (ys : List ℕ) × (bs ≡ xs ++ ys) × IsPiece xs c × ArePieces ys cs

-- a quote, pieces, a quote; the string is the UTF-8 of the characters
abbrev pub IsStringLiteral : List ℕ → List ℕ → Type 0
IsStringLiteral bs string =
    (content : List ℕ) × (cs : List ℕ)
    × (bs ≡ quote ∷ (content ++ quote ∷ [])) × ArePieces content cs × (string ≡ encode_utf8_all cs)
