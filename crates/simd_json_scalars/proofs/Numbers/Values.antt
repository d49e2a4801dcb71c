-- What the digits of an integer are worth, and what number stands where its literal was found.
use Rattle.std.proofs.Common.{◌≡◌, refl, sym, ◌∙◌, ap, ap₂, subst, ℕ, zero, suc, ◌+◌, ◌-◌, ◌*◌, ◌^◌, ◌≤◌, ◌<◌, lit≤, lit<, inl, inr}
use Rattle.std.proofs.Common.{List, [], ◌∷◌, ◌++◌, length, length-drop, zero-add, take, drop, get_or, map, Bool, true, false, cond}
use Rattle.std.proofs.Common.{◌==◌, nat_lt, IsTrue, find, Some, None, Ok, Err, add_assoc, arith}
use mir.Val.{bool_byte}
use Rattle.std.specs.Char.{digit_value}
use Rattle.std.specs.List.{concat, AllByRecursion}
use Rattle.std.specs.Int.Digits.{number_from_digits}
use Rattle.std.specs.Str.Parse.{AllDigits, digits_value, digits_value_after}
use Rattle.std.proofs.Math.Nat.{pow-le-pow_right, pow-succ'}
use Rattle.std.proofs.lemmas.Bool.{both_ways, ne_eqb, le-ltb, lt-ltb, cond-true}
use Rattle.std.proofs.lemmas.Int.Digits.{digits_value_is, digits_value_more, digits_value-lt}
use Rattle.std.proofs.lemmas.List.{take-append-drop, take_rest, take-take, drop-take, get_or-take, get_or_append_left}
use Rattle.std.proofs.lemmas.List.FromFn.{get_or-range_with_len, length-range_with_len}
use Rattle.std.proofs.lemmas.List.Recursion.{found_at}
use Rattle.std.proofs.lemmas.Str.{digit_value_digit}
use Rattle.std.proofs.lemmas.Str.Parse.{digit_at, digits_value-take-le}
use Rattle.simd_json_parts.specs.Bytes.{is_terminator, byte_at, indices, minus_sign}
use Rattle.simd_json_parts.specs.Derivatives.{matches}
use Rattle.simd_json_parts.specs.Document.{integer}
use Rattle.simd_json_parts.specs.Patterns.{Matches}
use Rattle.simd_json_parts.specs.Numbers.{integer_literal, int, digit, has_minus, magnitude}
use Rattle.simd_json_parts.specs.Integers.{max_magnitude, max_magnitude_64}
use Rattle.simd_json_parts.specs.NumberAt.{number_at, integer_or, first_excess}
use Rattle.simd_json_scalars.specs.NumeralRead.{IsNumeralAt}
use Rattle.simd_json_parts.specs.Faults.{fault_at}
use Rattle.simd_json_parts.specs.declared.error.ErrorType.TheVariants.{InvalidNumber}
use Rattle.simd_json_scalars.specs.declared.numberparse.Numeral.TheVariants.{Integer}
use Rattle.simd_json_parts.proofs.Patterns.Sets.{Matches-matches}
use Rattle.simd_json_scalars.proofs.Numbers.Literals.{byte_at-front, integer-number, number_at-integer, number_at-literal}
use Rattle.simd_json_scalars.proofs.Numbers.Literals.{magnitude-take, first_excess-none}

-- ---- digits

-- one digit more
pub record Grows (ds : List ℕ) (k : ℕ) : Type 0 where
  pub low : 48 ≤ get_or ds k 0
  pub high : get_or ds k 0 ≤ 57
  pub value : digits_value 10 (take (k + 1) ds) + 48 ≡ digits_value 10 (take k ds) * 10 + get_or ds k 0

pub digits_value-grows : (ds : List ℕ) (k : ℕ) → AllDigits 10 ds → k < length ds → Grows ds k
digits_value-grows ds k all l =
    let digit : (48 ≤ get_or ds k 0) × (get_or ds k 0 ≤ 57) = digit_at ds k all l in
    record {
      low = digit.0;
      high = digit.1;
      value = omega (arith, digits_value_more 10 ds k l, digit_value_digit (get_or ds k 0) digit);
    }

-- Nineteen digits stay below 2^64.
pub digits_value-fits : (ds : List ℕ) (k : ℕ) → AllDigits 10 ds → length ds ≤ 19 → digits_value 10 (take k ds) < 2 ^ 64
digits_value-fits ds k all short =
    let most : 10 ^ length ds ≤ 10 ^ 19 = pow-le-pow_right (lit< tt) short in
    let fits : 10 ^ 19 < 2 ^ 64 = lit< tt in
    omega (arith, digits_value-take-le 10 ds k (lit≤ tt), digits_value-lt 10 ds all)

pub max_magnitude_64-le : (minus : Bool) → max_magnitude_64 minus ≤ max_magnitude minus
max_magnitude_64-le true = lit≤ tt
max_magnitude_64-le false = lit≤ tt

pub AllDigits-take : (n : ℕ) (ds : List ℕ) → AllDigits 10 ds → AllDigits 10 (take n ds)
AllDigits-take zero ds all = tt
AllDigits-take (suc n) [] all = tt
AllDigits-take (suc n) (d ∷ ds) all = (all.0, AllDigits-take n ds all.1)

-- Two runs of digits are worth the first, moved by as many places as the second has, and the second.
value_after : (n : ℕ) (ds : List ℕ) → digits_value_after 10 n ds ≡ n * 10 ^ length ds + digits_value 10 ds
value_after n [] = omega arith
value_after n (d ∷ ds) =
    let places : 10 ^ length (d ∷ ds) ≡ 10 * 10 ^ length ds = pow-succ' 10 (length ds) in
    value_after (n * 10 + digit_value d) ds
    ∙ shift n (digit_value d) (10 ^ length ds) (digits_value 10 ds)
    ∙ ap₂ (λ p r. n * p + r) (sym places) (sym (value_after (0 * 10 + digit_value d) ds))
  where
    shift : (n v p t : ℕ) → (n * 10 + v) * p + t ≡ n * (10 * p) + ((0 * 10 + v) * p + t)
    shift n v p t = grind arith

after_append : (n : ℕ) (xs ys : List ℕ) → digits_value_after 10 n (xs ++ ys) ≡ digits_value_after 10 (digits_value_after 10 n xs) ys
after_append n [] ys = refl
after_append n (x ∷ xs) ys = after_append (n * 10 + digit_value x) xs ys

pub digits_value-join : (n : ℕ) (ds : List ℕ)
    → digits_value 10 ds ≡ digits_value 10 (take n ds) * 10 ^ length (drop n ds) + digits_value 10 (drop n ds)
digits_value-join n ds =
    ap (digits_value 10) (sym (take-append-drop n ds)) ∙ after_append 0 (take n ds) (drop n ds)
    ∙ value_after (digits_value 10 (take n ds)) (drop n ds)

-- ---- the digits of an integer's literal

digit_value-lt : (c : ℕ) → 48 ≤ c → c ≤ 57 → digit_value c < 10
digit_value-lt c low high = omega (arith, digit_value_digit c (low, high))

many_digits : (parts : List (List ℕ)) → AllByRecursion (Matches digit) parts → AllDigits 10 (concat parts)
many_digits [] all = tt
many_digits (x ∷ parts) ((c, e, low, high), all) =
    subst (λ bs. AllDigits 10 (bs ++ concat parts)) (sym e) (digit_value-lt c low high, many_digits parts all)

-- digits, of which the first is no sign
pub record AreUnsigned (bs : List ℕ) : Type 0 where
  pub digits : AllDigits 10 bs
  pub sign : has_minus bs ≡ false

pub int-digits : (bs : List ℕ) → Matches int bs → AreUnsigned bs
int-digits bs (inl (c, e, low, high)) =
    subst AreUnsigned (sym e) (record { digits = (digit_value-lt c low (omega arith), tt); sign = ne_eqb c 45 (λ h. omega arith) })
int-digits bs (inr (xs, ys, e, (c, f, low, high), (parts, g, all))) =
    let whole : bs ≡ c ∷ concat parts = simp (e, f, g) in
    subst AreUnsigned (sym whole)
    (record { digits = (digit_value-lt c (omega arith) high, many_digits parts all); sign = ne_eqb c 45 (λ h. omega arith) })

-- where the digits begin
abbrev pub start : List ℕ → ℕ
start xs = bool_byte (has_minus xs)

cond-bool_byte : (t : Bool) → cond t 1 0 ≡ bool_byte t
cond-bool_byte true = refl
cond-bool_byte false = refl

integer-digits : (xs : List ℕ) → Matches integer_literal xs → AllDigits 10 (drop (start xs) xs)
integer-digits xs (us, vs, e, inl h, m) =
    let d : AreUnsigned vs = int-digits vs m in
    let same : xs ≡ vs = simp (e, h) in
    subst (λ bs. AllDigits 10 (drop (start bs) bs)) (sym same) (rw d.sign d.digits)
integer-digits xs (us, vs, e, inr (c, h, low, high), m) =
    let d : AreUnsigned vs = int-digits vs m in
    let minus : c ≡ 45 = omega arith in
    let same : xs ≡ 45 ∷ vs = simp (e, h, minus) in
    subst (λ bs. AllDigits 10 (drop (start bs) bs)) (sym same) d.digits

-- the digits as a slice after the sign
abbrev pub after_start : List ℕ → List ℕ
after_start xs = take (length xs - start xs) (drop (start xs) xs)

pub after_start-is : (xs : List ℕ) → after_start xs ≡ drop (start xs) xs
after_start-is xs = take_rest xs (start xs)

pub integer-AllDigits : (xs : List ℕ) → Matches integer_literal xs → AllDigits 10 (after_start xs)
integer-AllDigits xs m = subst (AllDigits 10) (sym (after_start-is xs)) (integer-digits xs m)

pub magnitude-is : (xs : List ℕ) → magnitude xs ≡ digits_value 10 (after_start xs)
magnitude-is xs =
    ap (λ k. number_from_digits 10 (map digit_value (drop k xs))) (cond-bool_byte (has_minus xs))
    ∙ sym (ap (digits_value 10) (after_start-is xs) ∙ digits_value_is 10 (drop (start xs) xs))

-- Nineteen bytes fit 64 bits: with a sign, eighteen digits.
pub short-in_range : (xs : List ℕ) → Matches integer_literal xs → length xs ≤ 19
    → digits_value 10 (after_start xs) ≤ max_magnitude_64 (has_minus xs)
short-in_range xs m short =
    let size : length (after_start xs) ≡ length xs - start xs = ap length (after_start-is xs) ∙ length-drop (start xs) xs in
    let below : digits_value 10 (after_start xs) < 10 ^ length (after_start xs) =
    digits_value-lt 10 (after_start xs) (integer-AllDigits xs m) in
    at-sign (has_minus xs) refl size below
  where
    at-sign : (minus : Bool) → has_minus xs ≡ minus → length (after_start xs) ≡ length xs - start xs
        → digits_value 10 (after_start xs) < 10 ^ length (after_start xs) → digits_value 10 (after_start xs) ≤ max_magnitude_64 minus
    at-sign true h size below =
        let one : start xs ≡ 1 = ap bool_byte h in
        let few : length (after_start xs) ≤ 18 = omega arith in
        let most : 10 ^ length (after_start xs) ≤ 10 ^ 18 = pow-le-pow_right (lit< tt) few in
        let fits : 10 ^ 18 < 2 ^ 63 = lit< tt in
        omega arith
    at-sign false h size below =
        let few : length (after_start xs) ≤ 19 = omega arith in
        let most : 10 ^ length (after_start xs) ≤ 10 ^ 19 = pow-le-pow_right (lit< tt) few in
        let fits : 10 ^ 19 < 2 ^ 64 = lit< tt in
        omega arith

magnitude-prefix : (xs : List ℕ) (n : ℕ) → 0 < start xs + n
    → magnitude (take (start xs + n) xs) ≡ digits_value 10 (take n (drop (start xs) xs))
magnitude-prefix xs n some =
    let prefix : List ℕ = take (start xs + n) xs in
    let sign : has_minus prefix ≡ has_minus xs = ap (λ c. c == 45) (get_or-take (start xs + n) xs 0 32 some) in
    ap (λ k. number_from_digits 10 (map digit_value (drop k prefix))) (cond-bool_byte (has_minus prefix) ∙ ap bool_byte sign)
    ∙ ap (λ ds. number_from_digits 10 (map digit_value ds)) (drop-take (start xs) n xs)
    ∙ sym (digits_value_is 10 (take n (drop (start xs) xs)))

-- ---- where the magnitude passes the greatest

-- the digit with which the value does so
abbrev pub IsFirstExcess : List ℕ → ℕ → Type 0
IsFirstExcess ds at = (at < length ds) × (digits_value 10 (take at ds) ≤ max_magnitude false)
    × (max_magnitude false < digits_value 10 (take (at + 1) ds))

first_excess-some : (xs : List ℕ) (at : ℕ) → IsFirstExcess (drop (start xs) xs) at → first_excess xs ≡ Some (start xs + at)
first_excess-some xs at (inside, before, excess) =
    let k : ℕ = start xs + at in
    let too_great : ℕ → Bool = λ n. nat_lt (max_magnitude false) (magnitude (take (n + 1) xs)) in
    let within : k < length xs = omega (arith, length-drop (start xs) xs) in
    let index : (n : ℕ) → n < length xs → get_or (indices xs) n 0 ≡ n = λ n l. get_or-range_with_len 0 (length xs) n 0 l ∙ zero-add n in
    let fits : (n : ℕ) → n < k → magnitude (take (n + 1) xs) ≤ max_magnitude false =
    λ n l. omega (
      arith,
      magnitude-prefix xs at (omega arith),
      magnitude-take (n + 1) (take k xs),
      ap magnitude (take-take (n + 1) k xs (omega arith)),
    ) in
    found_at (find too_great) too_great Some None refl (λ _ _. refl) (indices xs) k 0
    (omega (arith, length-range_with_len 0 (length xs)))
    (λ n l. ap too_great (index n (omega arith)) ∙ le-ltb _ _ (fits n l))
    (ap too_great (index k within)
    ∙ lt-ltb _ _ (omega (arith, magnitude-prefix xs (at + 1) (omega arith), ap (λ j. magnitude (take j xs)) (add_assoc (start xs) at 1))))
    ∙ ap Some (index k within)

-- ---- an integer at an index, with a terminator or the end after it

integer-some : (xs : List ℕ) → Matches integer_literal xs → 0 < length xs
integer-some [] m = absurd (both_ways (matches integer_literal []) refl (Matches-matches integer_literal [] m))
integer-some (x ∷ xs) m = omega arith

module _ (b : List ℕ) (i : ℕ) (xs rest : List ℕ) (e : drop i b ≡ xs ++ rest)
    (t : IsTrue (is_terminator (byte_at rest 0))) (m : Matches integer_literal xs) where
  number_at-range : number_at b i ≡ integer_or b i xs (i + length xs) (first_excess xs)
  number_at-range = number_at-literal b i xs rest e t (integer-number xs m) ∙ cond-true _ _ _ (Matches-matches integer_literal xs m)

  -- the first byte there is the literal's
  sign-at : (byte_at b i == minus_sign) ≡ has_minus xs
  sign-at = ap (λ c. c == minus_sign) (byte_at-front b i (xs ++ rest) e ∙ get_or_append_left xs rest 32 0 (integer-some xs m))

  pub number_at-value : (value : ℕ) → value ≡ digits_value 10 (after_start xs) → value ≤ max_magnitude (has_minus xs)
      → number_at b i ≡ Ok (integer (has_minus xs) value, i + length xs)
  number_at-value value v fits =
      let same : value ≡ magnitude xs = v ∙ sym (magnitude-is xs) in
      number_at-integer b i xs rest e t m (subst (λ k. k ≤ max_magnitude (has_minus xs)) same fits)
      ∙ ap (λ n. Ok (integer (has_minus xs) n, i + length xs)) (sym same)

  pub number_at-numeral : (value : ℕ) → value ≡ digits_value 10 (after_start xs) → value ≤ max_magnitude_64 (has_minus xs)
      → IsNumeralAt b i (Integer value)
  number_at-numeral value v fits =
      let most : max_magnitude_64 (has_minus xs) ≤ max_magnitude (has_minus xs) = max_magnitude_64-le (has_minus xs) in (
        i + length xs,
        number_at-value value v (omega arith) ∙ ap (λ minus. Ok (integer minus value, i + length xs)) (sym sign-at),
        subst (λ minus. value ≤ max_magnitude_64 minus) (sym sign-at) fits,
      )

  pub number_at-below : (value : ℕ) → value ≡ digits_value 10 (after_start xs) → value ≤ max_magnitude false
      → max_magnitude (has_minus xs) < value
      → number_at b i ≡ Err (fault_at b InvalidNumber (i + length xs))
  number_at-below value v fits below =
      let same : value ≡ magnitude xs = v ∙ sym (magnitude-is xs) in
      number_at-range
      ∙ ap (integer_or b i xs (i + length xs)) (first_excess-none xs (subst (λ k. k ≤ max_magnitude false) same fits))
      ∙ cond-true _ _ _ (lt-ltb (max_magnitude (has_minus xs)) (magnitude xs) (subst (λ k. max_magnitude (has_minus xs) < k) same below))

  pub number_at-excess : (at : ℕ) → IsFirstExcess (after_start xs) at → number_at b i ≡ Err (fault_at b InvalidNumber (i + (start xs + at)))
  number_at-excess at x =
      number_at-range ∙ ap (integer_or b i xs (i + length xs))
      (first_excess-some xs at (subst (λ ds. IsFirstExcess ds at) (after_start-is xs) x))
