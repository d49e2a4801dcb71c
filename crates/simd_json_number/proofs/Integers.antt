-- Literals of integers, as they are printed.
use Rattle.std.proofs.Common.{◌≡◌, ◌∙◌, ap, sym, refl, ◌+◌, ◌^◌, ◌<◌, ◌≤◌, ℕ, zero, suc, List, [], ◌∷◌, length, take, arith, Bool, true}
use Rattle.std.proofs.Common.{false, cond, map, ℤ, pos, ◌-ℤ◌}
use Rattle.std.specs.Char.{digit_value, is_ascii_digit}
use Rattle.std.specs.Fmt.{decimal}
use Rattle.std.specs.Int.Digits.{number_from_digits}
use Rattle.std.specs.List.{filter, position_or_len, after_first}
use Rattle.std.specs.Str.Parse.{AllDigits}
use Rattle.std.proofs.lemmas.Bool.Decides.{nat_tests}
use Rattle.std.proofs.lemmas.Fmt.{decimal_is_IsNumeral_wide}
use Rattle.std.proofs.lemmas.Int.{ints}
use Rattle.std.proofs.lemmas.Int.Digits.{digits_value_is}
use Rattle.std.proofs.lemmas.List.{drop_all, take_all}
use Rattle.simd_json_parts.specs.Integers.{number_of}
use Rattle.simd_json_parts.specs.Numbers.{has_minus}
use Rattle.simd_json_number.specs.Numbers.{Decimal, digits, exponent_part, fraction, integer, is_e, is_point, meaning, significand}

digit-range : (c : ℕ) → digit_value c < 10 → (48 ≤ c) × (c < 58)
digit-range c is = (grind (arith, nat_tests), grind (arith, nat_tests))

digits-all : (ds : List ℕ) → AllDigits 10 ds → digits ds ≡ map digit_value ds
digits-all [] all = refl
digits-all (d ∷ ds) all =
    let range = digit-range d all.0 in
    let is : is_ascii_digit d ≡ true = grind (arith, nat_tests) in
    ap (λ (b : Bool). map digit_value (cond b (d ∷ filter is_ascii_digit ds) (filter is_ascii_digit ds))) is
    ∙ ap (λ zs. digit_value d ∷ zs) (digits-all ds (all.1))

no-e : (ds : List ℕ) → AllDigits 10 ds → position_or_len is_e ds ≡ length ds
no-e [] all = refl
no-e (d ∷ ds) all =
    let range = digit-range d all.0 in
    let is : is_e d ≡ false = grind (arith, nat_tests) in
    rw is (omega (arith, no-e ds (all.1)))

no-point : (ds : List ℕ) → AllDigits 10 ds → position_or_len is_point ds ≡ length ds
no-point [] all = refl
no-point (d ∷ ds) all =
    let range = digit-range d all.0 in
    let is : is_point d ≡ false = grind (arith, nat_tests) in
    rw is (omega (arith, no-point ds (all.1)))

no-minus : (ds : List ℕ) → AllDigits 10 ds → has_minus ds ≡ false
no-minus [] all = refl
no-minus (d ∷ ds) all = let range = digit-range d all.0 in grind (arith, nat_tests)

pub decimals : (a b c d : ℤ) → a ≡ c → b ≡ d
    → Path Decimal (record { coefficient = a; exponent = b }) (record { coefficient = c; exponent = d })
decimals a b c d p q =
    let of : ℤ → ℤ → Decimal = λ x y. record { coefficient = x; exponent = y } in
    ap (λ x. of x b) p ∙ ap (of c) q

pub meaning-decimal : (n : ℕ) → n < 10 ^ 64 → meaning (decimal n) ≡ record { coefficient = pos n; exponent = pos 0 }
meaning-decimal n few =
    let ds = decimal n in
    let is = decimal_is_IsNumeral_wide n few in
    let all = is.0.1 in
    let whole : significand ds ≡ ds = ap (λ k. take k ds) (no-e ds all) ∙ take_all (length ds) ds (omega arith) in
    let none : exponent_part ds ≡ [] = drop_all (position_or_len is_e ds + 1) ds (omega (arith, no-e ds all)) in
    let none' : fraction ds ≡ [] =
    ap (after_first is_point) whole ∙ drop_all (position_or_len is_point ds + 1) ds (omega (arith, no-point ds all)) in
    let number : number_from_digits 10 (digits ds) ≡ n =
    ap (number_from_digits 10) (digits-all ds all) ∙ sym (digits_value_is 10 ds) ∙ is.1 in
    let coefficient : integer (significand ds) ≡ pos n =
    ap integer whole ∙ ap (λ s. number_of s (number_from_digits 10 (digits ds))) (no-minus ds all) ∙ ap pos number in
    let exponent : integer (exponent_part ds) -ℤ pos (length (digits (fraction ds))) ≡ pos 0 =
    ap (λ bs. integer bs -ℤ pos (length (digits (fraction ds)))) none ∙ ap (λ bs. integer [] -ℤ pos (length (digits bs))) none' in
    decimals _ _ _ _ coefficient exponent

pub magnitude-of : (s : Bool) (m n : ℕ) → number_of s m ≡ pos n → m ≡ n
magnitude-of true zero n is = omega (arith, ints)
magnitude-of true (suc m) n is = cc
magnitude-of false m n is = cc
