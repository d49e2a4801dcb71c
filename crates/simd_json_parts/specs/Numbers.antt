-- Number literals (RFC 8259, section 6), in the words of its grammar, and what an integer's literal means.
-- Acceptance rests on it.
use Rattle.std.specs.Prelude.{ℕ, List, drop, map, Bool, cond, ◌==◌}
use Rattle.std.specs.Char.{digit_value}
use Rattle.std.specs.Int.Digits.{number_from_digits}
use Rattle.simd_json_parts.specs.Bytes.{minus_sign, byte_at}
use Rattle.simd_json_parts.specs.Patterns.{Pattern, range, ◌then◌, ◌or◌, many, byte, optional, at_least_one}

-- + - . 0
abbrev pub plus : Pattern
plus = byte 43

abbrev pub minus : Pattern
minus = byte 45

abbrev pub decimal_point : Pattern
decimal_point = byte 46

abbrev pub zero_digit : Pattern
zero_digit = byte 48

-- 1 to 9
abbrev pub digit1-9 : Pattern
digit1-9 = range 49 57

abbrev pub digit : Pattern
digit = range 48 57

-- e or E
abbrev pub e : Pattern
e = byte 101 or byte 69

abbrev pub int : Pattern
int = zero_digit or digit1-9 then many digit

abbrev pub frac : Pattern
frac = decimal_point then at_least_one digit

abbrev pub exp : Pattern
exp = e then optional (minus or plus) then at_least_one digit

abbrev pub number_literal : Pattern
number_literal = optional minus then int then optional frac then optional exp

-- without fraction and exponent
abbrev pub integer_literal : Pattern
integer_literal = optional minus then int

-- with a fraction, an exponent or both
abbrev pub decimal_literal : Pattern
decimal_literal = optional minus then int then (frac then optional exp or exp)

abbrev pub has_minus : List ℕ → Bool
has_minus bs = byte_at bs 0 == minus_sign

-- the value of the digits after the sign
abbrev pub magnitude : List ℕ → ℕ
magnitude bs = number_from_digits 10 (map digit_value (drop (cond (has_minus bs) 1 0) bs))
