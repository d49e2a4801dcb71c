-- What the parts of a literal mean, and the order of numbers without their signs.
use Rattle.std.specs.Prelude.{ℕ, ◌*◌, ◌^◌, length, ℤ, pos, ◌+ℤ◌, ◌-ℤ◌}
use Rattle.std.specs.Int.Digits.{number_from_digits}
use Rattle.std.specs.Ordering.{nat_cmp}
use Rattle.std.specs.declared.cmp.Ordering.{Ordering}
use Rattle.simd_json_parts.specs.Integers.{number_of}
use Rattle.simd_json_number.specs.Clamped.{clamped}
use Rattle.simd_json_number.specs.Numbers.{Decimal, digits, integer, positive_part}
use Rattle.simd_json_number.specs.declared.literal.LiteralParts.{LiteralParts}

abbrev pub magnitude : LiteralParts → ℕ
magnitude l = number_from_digits 10 (digits l.significant.now)

abbrev pub exponent : LiteralParts → ℤ
exponent l = integer l.exponent.now -ℤ pos (length (digits l.fraction.now))

abbrev pub value : LiteralParts → Decimal
value l = record { coefficient = number_of l.is_negative (magnitude l); exponent = exponent l }

abbrev pub scaled_magnitude : LiteralParts → LiteralParts → ℕ
scaled_magnitude l r = magnitude l * 10 ^ positive_part (exponent l -ℤ exponent r)

abbrev pub compare_magnitudes : LiteralParts → LiteralParts → Ordering
compare_magnitudes l r = nat_cmp (scaled_magnitude l r) (scaled_magnitude r l)

-- by how much the power of ten of the first digit of one is greater, where they have so many digits
abbrev pub first_apart : LiteralParts → ℕ → LiteralParts → ℕ → ℤ
first_apart l n r m =
    clamped (integer l.exponent.now -ℤ integer r.exponent.now)
    +ℤ (pos n -ℤ pos (length (digits l.fraction.now)))
    -ℤ (pos m -ℤ pos (length (digits r.fraction.now)))
