-- What a number's literal means (RFC 8259, section 6), and the order of numbers.
use Rattle.std.specs.Prelude.{ℕ, ◌^◌, Bool, ◌==◌, ◌||◌, List, length, map, ℤ, pos, negsuc, ◌-ℤ◌, ◌*ℤ◌}
use Rattle.std.specs.Char.{digit_value, is_ascii_digit}
use Rattle.std.specs.Int.Digits.{number_from_digits}
use Rattle.std.specs.List.{after_first, before_first, filter}
use Rattle.std.specs.declared.cmp.Ordering.{Ordering}
use Rattle.std.specs.Ordering.{int_cmp}
use Rattle.simd_json_parts.specs.Integers.{number_of}
use Rattle.simd_json_parts.specs.Numbers.{has_minus}

-- a coefficient times a power of ten
pub record Decimal : Type 0 where
  pub coefficient : ℤ
  pub exponent : ℤ

-- ---- the parts of a literal

abbrev pub is_e : ℕ → Bool
is_e b = (b == 101) || (b == 69)

abbrev pub is_point : ℕ → Bool
is_point b = b == 46

abbrev pub significand : List ℕ → List ℕ
significand literal = before_first is_e literal

abbrev pub fraction : List ℕ → List ℕ
fraction literal = after_first is_point (significand literal)

abbrev pub exponent_part : List ℕ → List ℕ
exponent_part literal = after_first is_e literal

-- ---- what they mean

-- the digits among bytes
abbrev pub digits : List ℕ → List ℕ
digits bs = map digit_value (filter is_ascii_digit bs)

-- the integer of a sign and digits; a point is left out
abbrev pub integer : List ℕ → ℤ
integer bs = number_of (has_minus bs) (number_from_digits 10 (digits bs))

abbrev pub meaning : List ℕ → Decimal
meaning literal = record {
  coefficient = integer (significand literal);
  exponent = integer (exponent_part literal) -ℤ pos (length (digits (fraction literal)));
}

-- ---- the order of numbers

abbrev pub positive_part : ℤ → ℕ
positive_part (pos n) = n
positive_part (negsuc n) = 0

-- the coefficient of one number with the smaller exponent of two
abbrev pub scaled : Decimal → Decimal → ℤ
scaled x y = x.coefficient *ℤ pos (10 ^ positive_part (x.exponent -ℤ y.exponent))

abbrev pub compare : Decimal → Decimal → Ordering
compare x y = int_cmp (scaled x y) (scaled y x)
