-- Differences of integers that are read digit by digit, and of exponents.
use Rattle.std.proofs.Common.{◌≡◌, ◌+◌, ◌*◌, ℕ, max, Bool, true, false, arith, ℤ, pos, negsuc, ◌+ℤ◌, ◌-ℤ◌, ◌*ℤ◌}
use Rattle.std.proofs.lemmas.Int.{ints, clamps}
use Rattle.simd_json_parts.specs.Integers.{number_of}
use Rattle.simd_json_number.specs.Clamped.{clamped, limit, IsWithin}
use Rattle.simd_json_number.specs.Numbers.{positive_part}

-- what is clamped before a digit is read is clamped after it
pub clamped-more : (z x y : ℤ) → IsWithin (pos 9) x → IsWithin (pos 9) y
    → clamped (pos 10 *ℤ clamped z +ℤ x -ℤ y) ≡ clamped (pos 10 *ℤ z +ℤ x -ℤ y)
clamped-more z x y p q = omega (arith, ints, clamps)

pub number_of-more : (minus : Bool) (n d : ℕ) → number_of minus (n * 10 + d) ≡ pos 10 *ℤ number_of minus n +ℤ number_of minus d
number_of-more true n d = omega (arith, ints)
number_of-more false n d = omega (arith, ints)

-- ---- how far two exponents are apart, and how far their first digits are

pub parts-cases : (z w : ℤ) → z +ℤ w ≡ pos 0 → pos (positive_part z) ≡ z +ℤ pos (positive_part w)
parts-cases (pos a) (pos b) is = omega (arith, ints)
parts-cases (pos a) (negsuc b) is = omega (arith, ints)
parts-cases (negsuc a) (pos b) is = omega (arith, ints)
parts-cases (negsuc a) (negsuc b) is = omega (arith, ints)

pub max-cases : (n m : ℕ) (z w : ℤ) → z +ℤ w ≡ pos 0 → n + positive_part z ≡ m + positive_part w → max n m ≡ n + positive_part z
max-cases n m (pos a) (pos b) sum is = omega (arith, ints)
max-cases n m (pos a) (negsuc b) sum is = omega (arith, ints)
max-cases n m (negsuc a) (pos b) sum is = omega (arith, ints)
max-cases n m (negsuc a) (negsuc b) sum is = omega (arith, ints)
