-- Lists of digits.
use Rattle.std.proofs.Common.{◌≡◌, ◌∙◌, ap, sym, refl, ◌+◌, ◌*◌, ◌^◌, ◌<◌, ◌≤◌, ℕ, zero, suc, List, [], ◌∷◌, ◌++◌, length, drop, arith, inl}
use Rattle.std.proofs.Common.{inr, Bool, true, false, cond, map, rules, replicate, Less, Equal, Greater, slice_index, pow-add}
use Rattle.std.specs.Char.{digit_value, is_ascii_digit}
use Rattle.std.specs.Int.Digits.{number_from_digits, number_from_digits_after, AllBelowBase}
use Rattle.std.specs.List.{filter}
use Rattle.std.specs.Ordering.{nat_cmp, ordering_then}
use Rattle.std.specs.Cmp.{nat_cmp_is}
use Rattle.std.proofs.lemmas.Bool.{cases_order}
use Rattle.std.proofs.lemmas.Bool.Decides.{nat_tests}
use Rattle.std.proofs.Math.Nat.{pow-suc, mul-le-mul_right}
use Rattle.simd_json_number.specs.Numbers.{digits}
use Rattle.simd_json_number.specs.Padded.{compare_first}

-- ---- digits are below ten

digit-below : (b : ℕ) → is_ascii_digit b ≡ true → digit_value b < 10
digit-below b is = grind (arith, nat_tests)

digits-below-step : (b : ℕ) (v : Bool) (bs : List ℕ) → is_ascii_digit b ≡ v → AllBelowBase 10 (digits bs)
    → AllBelowBase 10 (map digit_value (cond v (b ∷ filter is_ascii_digit bs) (filter is_ascii_digit bs)))
digits-below-step b true bs is all = (digit-below b is, all)
digits-below-step b false bs is all = all

pub digits-below : (bs : List ℕ) → AllBelowBase 10 (digits bs)
digits-below [] = search rules
digits-below (b ∷ bs) = digits-below-step b (is_ascii_digit b) bs refl (digits-below bs)

-- ---- the number that they write

spread : (n d p r : ℕ) → (n * 10 + d) * p + r ≡ n * (p * 10) + (d * p + r)
spread n d p r = grind arith

first-digit : (d : ℕ) → d ≡ 0 * 10 + d
first-digit d = omega arith

number-after : (n : ℕ) (ds : List ℕ) → number_from_digits_after 10 n ds ≡ n * 10 ^ length ds + number_from_digits 10 ds
number-after n [] = omega arith
number-after n (d ∷ ds) =
    number-after (n * 10 + d) ds
    ∙ spread n d (10 ^ length ds) (number_from_digits 10 ds)
    ∙ ap (λ q. n * q + (d * 10 ^ length ds + number_from_digits 10 ds)) (sym (pow-suc 10 (length ds)))
    ∙ ap (λ e. n * 10 ^ suc (length ds) + (e * 10 ^ length ds + number_from_digits 10 ds)) (first-digit d)
    ∙ ap (λ r. n * 10 ^ suc (length ds) + r) (sym (number-after (0 * 10 + d) ds))

number-cons : (d : ℕ) (ds : List ℕ) → number_from_digits 10 (d ∷ ds) ≡ d * 10 ^ length ds + number_from_digits 10 ds
number-cons d ds =
    number-after (0 * 10 + d) ds ∙ ap (λ e. e * 10 ^ length ds + number_from_digits 10 ds) (sym (first-digit d))

pub number-zeros : (k : ℕ) (ds : List ℕ) → number_from_digits 10 (replicate k 0 ++ ds) ≡ number_from_digits 10 ds
number-zeros zero ds = refl
number-zeros (suc k) ds = number-zeros k ds

-- not below what its first digit is there
times-some : (d p : ℕ) → 0 < d → p ≤ d * p
times-some d p some = grind arith

pub number-first : (ds : List ℕ) → 0 < slice_index ds 0 → 10 ^ length ds ≤ 10 * number_from_digits 10 ds
number-first [] some = absurd (omega arith)
number-first (d ∷ ds) some = omega (arith, number-cons d ds, pow-suc 10 (length ds), times-some d (10 ^ length ds) some)

pub number-none : (bs : List ℕ) → length bs ≡ 0 → number_from_digits 10 (digits bs) ≡ 0
number-none [] none = refl
number-none (b ∷ bs) none = absurd (omega arith)

-- ---- the first so many digits, with zeros after the last one

abbrev pub number_of_first : ℕ → List ℕ → ℕ
number_of_first zero xs = 0
number_of_first (suc n) xs = slice_index xs 0 * 10 ^ n + number_of_first n (drop 1 xs)

number_of_first-none : (n : ℕ) → number_of_first n [] ≡ 0
number_of_first-none zero = refl
number_of_first-none (suc n) = omega (arith, number_of_first-none n)

spread-2 : (d p r q : ℕ) → d * (p * q) + r * q ≡ (d * p + r) * q
spread-2 d p r q = grind arith

pub number_of_first-all : (n : ℕ) (ds : List ℕ) (k : ℕ) → length ds + k ≡ n → number_of_first n ds ≡ number_from_digits 10 ds * 10 ^ k
number_of_first-all n [] k is = omega (arith, number_of_first-none n)
number_of_first-all zero (d ∷ ds) k is = absurd (omega arith)
number_of_first-all (suc n) (d ∷ ds) k is =
    let few : length ds + k ≡ n = omega arith in
    ap (λ r. d * 10 ^ n + r) (number_of_first-all n ds k few)
    ∙ ap (λ m. d * 10 ^ m + number_from_digits 10 ds * 10 ^ k) (sym few)
    ∙ ap (λ p. d * p + number_from_digits 10 ds * 10 ^ k) (pow-add 10 (length ds) k)
    ∙ spread-2 d (10 ^ length ds) (number_from_digits 10 ds) (10 ^ k)
    ∙ ap (λ m. m * 10 ^ k) (sym (number-cons d ds))

-- ---- the first that differ decide

below-ten : (d p r : ℕ) → d < 10 → r < p → d * p + r < p * 10
below-ten d p r less rest = omega (arith, mul-le-mul_right p less)

number_of_first-lt : (n : ℕ) (ds : List ℕ) → AllBelowBase 10 ds → number_of_first n ds < 10 ^ n
number_of_first-lt zero ds all = omega arith
number_of_first-lt (suc n) [] all =
    omega (arith, pow-suc 10 n, number_of_first-lt n [] all, number_of_first-none n)
number_of_first-lt (suc n) (d ∷ ds) all =
    omega (arith, pow-suc 10 n, below-ten d (10 ^ n) (number_of_first n ds) all.0 (number_of_first-lt n ds all.1))

first-lt : (x y p r s : ℕ) → x < y → r < p → x * p + r < y * p + s
first-lt x y p r s less rest = omega (arith, mul-le-mul_right p less)

same-first : (x r s : ℕ) → nat_cmp r s ≡ nat_cmp (x + r) (x + s)
same-first x r s = grind (arith, nat_tests)

pub less-is : (x y : ℕ) → x < y → nat_cmp x y ≡ Less
less-is x y less = sym (nat_cmp_is x y Less less)

pub greater-is : (x y : ℕ) → y < x → nat_cmp x y ≡ Greater
greater-is x y more = sym (nat_cmp_is x y Greater more)

pub equal-is : (x y : ℕ) → x ≡ y → nat_cmp x y ≡ Equal
equal-is x y same = sym (nat_cmp_is x y Equal same)

decide : (x y p r s : ℕ) → r < p → s < p → ordering_then (nat_cmp x y) (nat_cmp r s) ≡ nat_cmp (x * p + r) (y * p + s)
decide x y p r s few few' = elim (cases_order x y) [
  | inl same ↦
      ap (λ o. ordering_then o (nat_cmp r s)) (equal-is x y same)
      ∙ same-first (x * p) r s
      ∙ ap (λ z. nat_cmp (x * p + r) (z * p + s)) same
  | inr (inl less) ↦
      ap (λ o. ordering_then o (nat_cmp r s)) (less-is x y less)
      ∙ sym (less-is (x * p + r) (y * p + s) (first-lt x y p r s less few))
  | inr (inr more) ↦
      ap (λ o. ordering_then o (nat_cmp r s)) (greater-is x y more)
      ∙ sym (greater-is (x * p + r) (y * p + s) (first-lt y x p s r more few'))
]

drop-below : (ds : List ℕ) → AllBelowBase 10 ds → AllBelowBase 10 (drop 1 ds)
drop-below [] all = all
drop-below (d ∷ ds) all = all.1

pub compare_first-is : (n : ℕ) (xs ys : List ℕ) → AllBelowBase 10 xs → AllBelowBase 10 ys
    → compare_first n xs ys ≡ nat_cmp (number_of_first n xs) (number_of_first n ys)
compare_first-is zero xs ys all all' = refl
compare_first-is (suc n) xs ys all all' =
    let xs' = drop-below xs all in
    let ys' = drop-below ys all' in
    ap (ordering_then (nat_cmp (slice_index xs 0) (slice_index ys 0))) (compare_first-is n (drop 1 xs) (drop 1 ys) xs' ys')
    ∙ decide (slice_index xs 0) (slice_index ys 0) (10 ^ n) (number_of_first n (drop 1 xs)) (number_of_first n (drop 1 ys))
    (number_of_first-lt n (drop 1 xs) xs') (number_of_first-lt n (drop 1 ys) ys')
