-- The order of numbers by their first digits.
use Rattle.std.proofs.Common.{◌≡◌, ◌∙◌, ap, ◌+◌, ◌*◌, ◌^◌, ◌<◌, ◌≤◌, ℕ, suc, max, List, length, arith, Less, Greater, pow-add}
use Rattle.std.specs.Prelude.{slice_index, ℤ, pos, ◌+ℤ◌, ◌-ℤ◌, ◌<ℤ◌}
use Rattle.std.specs.Int.Digits.{number_from_digits, AllBelowBase}
use Rattle.std.specs.Ordering.{nat_cmp}
use Rattle.std.proofs.lemmas.Int.{ints, clamps}
use Rattle.std.proofs.lemmas.Int.Digits.{number_lt}
use Rattle.std.proofs.Math.Nat.{pow-suc, mul-le-mul_right, mul-lt-mul_of_pos_right, pow-le-pow_right, one-le-pow}
use Rattle.simd_json_number.specs.Clamped.{clamped}
use Rattle.simd_json_number.specs.Numbers.{positive_part}
use Rattle.simd_json_number.specs.Padded.{compare_first}
use Rattle.simd_json_number.proofs.Clamps.{parts-cases, max-cases}
use Rattle.simd_json_number.proofs.DigitLists.{compare_first-is, number-first, number_of_first, number_of_first-all, less-is, greater-is}

-- a number whose first digit, which is not 0, has the greater power of ten is greater
higher : (c d n m p q : ℕ) → 10 ^ n ≤ 10 * c → d < 10 ^ m → m + q < n + p → d * 10 ^ q < c * 10 ^ p
higher c d n m p q least less above =
    let least' = mul-le-mul_right (10 ^ p) least in
    let some : 0 < 10 ^ q = one-le-pow q 10 (omega arith) in
    let less' = mul-lt-mul_of_pos_right less some in
    let ten : 0 < 10 = omega arith in
    let powers : 10 ^ (suc (m + q)) ≤ 10 ^ (n + p) = pow-le-pow_right ten above in
    omega (arith, least', less', powers, pow-add 10 n p, pow-add 10 m q, pow-suc 10 (m + q))

pub none-below : (c d p q : ℕ) → c ≡ 0 → 0 < d → c * 10 ^ p < d * 10 ^ q
none-below c d p q none some =
    let power : 0 < 10 ^ q = one-le-pow q 10 (omega arith) in
    let zero : c * 10 ^ p ≡ 0 = ap (λ x. x * 10 ^ p) none ∙ omega arith in
    omega (arith, mul-lt-mul_of_pos_right some power)

pub some-number : (xs : List ℕ) → 0 < slice_index xs 0 → 0 < number_from_digits 10 xs
some-number xs some = let power : 0 < 10 ^ length xs = one-le-pow (length xs) 10 (omega arith) in omega (arith, number-first xs some)

pub some-scaled : (c p : ℕ) → 0 < c → 0 < c * 10 ^ p
some-scaled c p some = let power : 0 < 10 ^ p = one-le-pow p 10 (omega arith) in omega (arith, mul-lt-mul_of_pos_right some power)

-- of two numbers: their exponents, how many digits they have and how many of these are decimals, and how far their
-- first digits are apart
pub record AreApart (n m k l : ℕ) (e f apart : ℤ) : Type 0 where
  pub few : (n < 2 ^ 64) × (m < 2 ^ 64) × (k < 2 ^ 64) × (l < 2 ^ 64)
  pub is : apart ≡ clamped (e -ℤ f) +ℤ (pos n -ℤ pos k) -ℤ (pos m -ℤ pos l)

abbrev pub above : ℤ → ℕ → ℤ → ℕ → ℕ
above e k f l = positive_part ((e -ℤ pos k) -ℤ (f -ℤ pos l))

first-above : (n m k l : ℕ) (e f apart : ℤ) → AreApart n m k l e f apart → pos 0 <ℤ apart → m + above f l e k < n + above e k f l
first-above n m k l e f apart are more =
    let few = are.few in
    let is = are.is in
    let parts = parts-cases ((e -ℤ pos k) -ℤ (f -ℤ pos l)) ((f -ℤ pos l) -ℤ (e -ℤ pos k)) (omega (arith, ints)) in
    omega (arith, ints, clamps)

first-below : (n m k l : ℕ) (e f apart : ℤ) → AreApart n m k l e f apart → apart <ℤ pos 0 → n + above e k f l < m + above f l e k
first-below n m k l e f apart are less =
    let few = are.few in
    let is = are.is in
    let parts = parts-cases ((e -ℤ pos k) -ℤ (f -ℤ pos l)) ((f -ℤ pos l) -ℤ (e -ℤ pos k)) (omega (arith, ints)) in
    omega (arith, ints, clamps)

first-level : (n m k l : ℕ) (e f apart : ℤ) → AreApart n m k l e f apart → apart ≡ pos 0 → n + above e k f l ≡ m + above f l e k
first-level n m k l e f apart are none =
    let few = are.few in
    let is = are.is in
    let parts = parts-cases ((e -ℤ pos k) -ℤ (f -ℤ pos l)) ((f -ℤ pos l) -ℤ (e -ℤ pos k)) (omega (arith, ints)) in
    omega (arith, ints, clamps)

-- two numbers whose first digits are not 0
module _ (xs ys : List ℕ) (k l : ℕ) (e f apart : ℤ) (some : 0 < slice_index xs 0) (some' : 0 < slice_index ys 0)
    (all : AllBelowBase 10 xs) (all' : AllBelowBase 10 ys) (are : AreApart (length xs) (length ys) k l e f apart) where
  abbrev one : ℕ
  one = number_from_digits 10 xs * 10 ^ above e k f l

  abbrev other : ℕ
  other = number_from_digits 10 ys * 10 ^ above f l e k

  pub greater-first : pos 0 <ℤ apart → nat_cmp one other ≡ Greater
  greater-first more =
      greater-is one other
      (higher (number_from_digits 10 xs) (number_from_digits 10 ys) (length xs) (length ys) (above e k f l) (above f l e k)
      (number-first xs some) (number_lt 10 ys all') (first-above (length xs) (length ys) k l e f apart are more))

  pub less-first : apart <ℤ pos 0 → nat_cmp one other ≡ Less
  less-first less =
      less-is one other
      (higher (number_from_digits 10 ys) (number_from_digits 10 xs) (length ys) (length xs) (above f l e k) (above e k f l)
      (number-first ys some') (number_lt 10 xs all) (first-below (length xs) (length ys) k l e f apart are less))

  pub level-first : apart ≡ pos 0 → compare_first (max (length xs) (length ys)) xs ys ≡ nat_cmp one other
  level-first none =
      let level = first-level (length xs) (length ys) k l e f apart are none in
      let places = max-cases (length xs) (length ys) ((e -ℤ pos k) -ℤ (f -ℤ pos l)) ((f -ℤ pos l) -ℤ (e -ℤ pos k))
      (omega (arith, ints)) level in
      let n = max (length xs) (length ys) in
      let here : length xs + above e k f l ≡ n = omega arith in
      let there : length ys + above f l e k ≡ n = omega arith in
      compare_first-is n xs ys all all'
      ∙ ap (λ a. nat_cmp a (number_of_first n ys)) (number_of_first-all n xs (above e k f l) here)
      ∙ ap (nat_cmp one) (number_of_first-all n ys (above f l e k) there)
