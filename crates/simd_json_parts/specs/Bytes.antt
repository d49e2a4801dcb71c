-- The bytes that JSON gives a meaning (RFC 8259, section 2), and the letters of its escapes and names. Acceptance
-- rests on it.
use Rattle.std.specs.Prelude.{ℕ, List, length, get_or, Bool, ◌||◌, ◌==◌, nat_lt}
use Rattle.std.specs.List.{range_with_len}

abbrev pub backspace : ℕ
backspace = 8

abbrev pub tab : ℕ
tab = 9

abbrev pub line_feed : ℕ
line_feed = 10

abbrev pub form_feed : ℕ
form_feed = 12

abbrev pub carriage_return : ℕ
carriage_return = 13

abbrev pub space : ℕ
space = 32

abbrev pub quote : ℕ
quote = 34

abbrev pub comma : ℕ
comma = 44

abbrev pub minus_sign : ℕ
minus_sign = 45

abbrev pub slash : ℕ
slash = 47

abbrev pub colon : ℕ
colon = 58

abbrev pub left_bracket : ℕ
left_bracket = 91

abbrev pub backslash : ℕ
backslash = 92

abbrev pub right_bracket : ℕ
right_bracket = 93

abbrev pub lower_b : ℕ
lower_b = 98

abbrev pub lower_f : ℕ
lower_f = 102

abbrev pub lower_n : ℕ
lower_n = 110

abbrev pub lower_r : ℕ
lower_r = 114

abbrev pub lower_t : ℕ
lower_t = 116

abbrev pub lower_u : ℕ
lower_u = 117

abbrev pub left_brace : ℕ
left_brace = 123

abbrev pub right_brace : ℕ
right_brace = 125

abbrev pub is_whitespace : ℕ → Bool
is_whitespace c = (c == space) || (c == tab) || (c == line_feed) || (c == carriage_return)

abbrev pub is_opening : ℕ → Bool
is_opening c = (c == left_bracket) || (c == left_brace)

abbrev pub is_closing : ℕ → Bool
is_closing c = (c == right_bracket) || (c == right_brace)

-- [ ] { } : ,
abbrev pub is_structural : ℕ → Bool
is_structural c =
    (c == left_bracket) || (c == right_bracket) || (c == left_brace) || (c == right_brace)
    || (c == colon) || (c == comma)

-- what may stand after a number, `true`, `false` or `null`
abbrev pub is_terminator : ℕ → Bool
is_terminator c = is_structural c || is_whitespace c

-- What no string may hold unescaped (section 7). The `is_control` of characters in std has U+007F to U+009F too.
abbrev pub is_control : ℕ → Bool
is_control c = nat_lt c 32

-- past the end of a document every byte reads as a space
abbrev pub byte_at : List ℕ → ℕ → ℕ
byte_at b i = get_or b i space

-- each index of b, in increasing order
abbrev pub indices : List ℕ → List ℕ
indices b = range_with_len 0 (length b)
