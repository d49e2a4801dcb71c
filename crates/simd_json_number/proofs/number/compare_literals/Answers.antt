use Rattle.std.proofs.Common.{◌≡◌, ◌∙◌, ap, sym, refl, ◌*◌, ◌^◌, ◌<◌, ℕ, suc, zero, Bool, true, false, arith, rules, Less, Greater}
use Rattle.std.specs.Prelude.{ℤ, pos, ◌-ℤ◌, ◌*ℤ◌}
use Rattle.std.specs.Ordering.{int_cmp, nat_cmp}
use Rattle.std.proofs.lemmas.Bool.Decides.{nat_tests}
use Rattle.std.proofs.lemmas.Int.{ints}
use Rattle.simd_json_parts.specs.Integers.{number_of}
use Rattle.simd_json_number.specs.Magnitudes.{exponent, magnitude, scaled_magnitude, value}
use Rattle.simd_json_number.specs.Numbers.{compare, digits, positive_part}
use Rattle.simd_json_number.specs.declared.literal.LiteralParts.{LiteralParts}
use Rattle.simd_json_number.proofs.Orders.{some-number, some-scaled}
use Rattle.simd_json_number.proofs.number.compare_literals.Goals as goal

times : (s : Bool) (c k : ℕ) → number_of s c *ℤ pos k ≡ number_of s (c * k)
times false c k = refl
times true zero k = omega (arith, ints)
times true (suc c) k = refl

signed : (s t : Bool) (l r : LiteralParts) → l.is_negative ≡ s → r.is_negative ≡ t
    → compare (value l) (value r) ≡ int_cmp (number_of s (scaled_magnitude l r)) (number_of t (scaled_magnitude r l))
signed s t l r is is' =
    let p = 10 ^ positive_part (exponent l -ℤ exponent r) in
    let q = 10 ^ positive_part (exponent r -ℤ exponent l) in
    ap (λ (a : ℤ). int_cmp a (number_of r.is_negative (magnitude r) *ℤ pos q)) (times l.is_negative (magnitude l) p)
    ∙ ap (int_cmp (number_of l.is_negative (magnitude l * p))) (times r.is_negative (magnitude r) q)
    ∙ ap (λ (b : Bool). int_cmp (number_of b (magnitude l * p)) (number_of r.is_negative (magnitude r * q))) is
    ∙ ap (λ (b : Bool). int_cmp (number_of s (magnitude l * p)) (number_of b (magnitude r * q))) is'

some-magnitude : (l r : LiteralParts) → l.is_negative ≡ true → 0 < scaled_magnitude l r
some-magnitude l r is =
    some-scaled (magnitude l) (positive_part (exponent l -ℤ exponent r))
    (some-number (digits l.significant.now) (l.leading (l.below_zero (search rules))))

both-below : (m n : ℕ) → int_cmp (number_of true m) (number_of true n) ≡ nat_cmp n m
both-below zero zero = refl
both-below zero (suc n) = search rules
both-below (suc m) zero = search rules
both-below (suc m) (suc n) = grind (arith, nat_tests)

one-below : (m n : ℕ) → 0 < m → int_cmp (number_of true m) (number_of false n) ≡ Less
one-below zero n some = absurd (omega arith)
one-below (suc m) n some = refl

one-above : (m n : ℕ) → 0 < n → int_cmp (number_of false m) (number_of true n) ≡ Greater
one-above m zero some = absurd (omega arith)
one-above m (suc n) some = refl

pub returns-in-true-true : goal.returns-in-true-true
returns-in-true-true c =
    let l = c.args.left.now in
    let r = c.args.right.now in
    c.compare_magnitudes.ensures
    ∙ sym (both-below (scaled_magnitude l r) (scaled_magnitude r l))
    ∙ sym (signed true true l r c.in-true-true.is-0 c.in-true-true.is-1)

pub returns-in-true-false : goal.returns-in-true-false
returns-in-true-false c =
    let l = c.args.left.now in
    let r = c.args.right.now in
    sym (one-below (scaled_magnitude l r) (scaled_magnitude r l) (some-magnitude l r c.in-true-false.is-0))
    ∙ sym (signed true false l r c.in-true-false.is-0 c.in-true-false.is-1)

pub returns-in-false-true : goal.returns-in-false-true
returns-in-false-true c =
    let l = c.args.left.now in
    let r = c.args.right.now in
    sym (one-above (scaled_magnitude l r) (scaled_magnitude r l) (some-magnitude r l c.in-false-true.is-1))
    ∙ sym (signed false true l r c.in-false-true.is-0 c.in-false-true.is-1)
