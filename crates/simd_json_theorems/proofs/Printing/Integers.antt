-- An integer's decimal digits, with a sign or without, are a literal of that integer.
use Rattle.std.proofs.Common.{◌≡◌, refl, sym, ◌∙◌, ap, subst, drop, map, cond, ℕ, zero, suc, ◌+◌, ◌/◌, ◌%◌, ◌^◌, ◌≤◌, ◌<◌, lit<}
use Rattle.std.proofs.Common.{inl, inr, List, [], ◌∷◌, ◌++◌, length, get_or, Bool, true, false, not, ◌==◌, arith}
use Rattle.std.specs.Char.{digit_value}
use Rattle.std.specs.Fmt.{decimal, signed_decimal, digits}
use Rattle.std.specs.Int.Digits.{number_from_digits}
use Rattle.std.specs.Str.Parse.{AllDigits, digits_value}
use Rattle.std.proofs.lemmas.Bool.{ne_eqb}
use Rattle.std.proofs.lemmas.Fmt.{decimal_is_IsNumeral_wide, decimal_by_steps_wide}
use Rattle.std.proofs.lemmas.Int.Digits.{digits_value_is}
use Rattle.std.proofs.lemmas.Str.Parse.{digit_at}
use Rattle.simd_json_parts.specs.Document.{integer}
use Rattle.simd_json_theorems.specs.Normalized.{normalized}
use Rattle.simd_json_parts.specs.Grammar.{IsValue}
use Rattle.simd_json_parts.specs.Integers.{number_of, max_magnitude}
use Rattle.simd_json_parts.specs.Numbers.{digit, int, magnitude}
use Rattle.simd_json_parts.specs.Patterns.{many, Matches}

-- ---- digits

many-digits : (ds : List ℕ) → AllDigits 10 ds → Matches (many digit) ds
many-digits [] all = ([], refl, tt)
many-digits (c ∷ ds) all =
    let here : (48 ≤ c) × (c ≤ 57) = digit_at (c ∷ ds) 0 all (omega arith) in
    let rest : Matches (many digit) ds = many-digits ds all.1 in
    ((c ∷ []) ∷ rest.0, ap (λ us. c ∷ us) rest.1, ((c, refl, here.0, here.1), rest.2))

-- Digits without a leading zero are an `int`.
int-digits : (ds : List ℕ) → AllDigits 10 ds → 0 < length ds → 48 < get_or ds 0 0 → Matches int ds
int-digits [] all some first = absurd (omega arith)
int-digits (c ∷ ds) all some first =
    let here : (48 ≤ c) × (c ≤ 57) = digit_at (c ∷ ds) 0 all some in
    inr (c ∷ [], ds, refl, (c, refl, omega arith, here.1), many-digits ds all.1)

-- decimal digits that are an `int` of this value
record Spells (n : ℕ) (ds : List ℕ) : Type 0 where
  some : 0 < length ds
  all : AllDigits 10 ds
  is_int : Matches int ds
  value : digits_value 10 ds ≡ n

-- An integer in range has at most 64 digits.
pub below-printed : (minus : Bool) (n : ℕ) → n ≤ max_magnitude minus → n < 10 ^ 64
below-printed true n fits = let most : max_magnitude true < 10 ^ 64 = lit< tt in omega arith
below-printed false n fits = let most : max_magnitude false < 10 ^ 64 = lit< tt in omega arith

-- of a number other than 0 the first digit is none
abbrev Leads : ℕ → List ℕ → Type 0
Leads n ds = 0 < n → (0 < length ds) × (48 < get_or ds 0 0)

leads-more : (n : ℕ) (ds : List ℕ) → 10 ≤ n → Leads (n / 10) ds → Leads n (ds ++ ((48 + n % 10) ∷ []))
leads-more n [] l h some = absurd (omega (arith, (h (omega arith)).0))
leads-more n (c ∷ ds) l h some = (omega arith, (h (omega arith)).1)

first_decimal : (n : ℕ) → 0 < n → n < 10 ^ 64 → 48 < get_or (decimal n) 0 0
first_decimal n some small = (decimal_by_steps_wide Leads (λ m l k. (omega arith, omega arith)) leads-more n small some).1

-- what is printed of a number
Spells-decimal : (n : ℕ) → n < 10 ^ 64 → Spells n (decimal n)
unfolding digits
Spells-decimal zero small =
    record { some = omega arith; all = (omega arith, tt); is_int = inl (48, refl, omega arith, omega arith); value = refl }
Spells-decimal (suc n) small =
    let numeral = decimal_is_IsNumeral_wide (suc n) small in
    record {
      some = numeral.0.0;
      all = numeral.0.1;
      is_int = int-digits (decimal (suc n)) numeral.0.1 numeral.0.0 (first_decimal (suc n) (omega arith) small);
      value = numeral.1;
    }

-- ---- integers

value-unsigned : (n : ℕ) (ds : List ℕ) → Spells n ds → IsValue (integer false n) ds
value-unsigned n [] s = absurd (omega (arith, s.some))
value-unsigned n (c ∷ ds) s =
    let first : (48 ≤ c) × (c ≤ 57) = digit_at (c ∷ ds) 0 s.all s.some in
    let sign : (c == 45) ≡ false = ne_eqb c 45 (λ e. omega arith) in
    let value : magnitude (c ∷ ds) ≡ n =
    ap (λ t. number_from_digits 10 (map digit_value (drop (cond t 1 0) (c ∷ ds)))) sign
    ∙ sym (digits_value_is 10 (c ∷ ds)) ∙ s.value in
    (([], c ∷ ds, refl, inl refl, s.is_int), sign, value)

value-signed : (n : ℕ) (ds : List ℕ) → Spells n ds → IsValue (integer true n) (45 ∷ ds)
value-signed n ds s = ((45 ∷ [], ds, refl, inr (45, refl, omega arith, omega arith), s.is_int), refl, sym (digits_value_is 10 ds) ∙ s.value)

-- What is printed of an integer is a literal of it, and no zero has a sign.
pub value-integer : (minus : Bool) (n : ℕ) → n ≤ max_magnitude minus
    → IsValue (normalized (integer minus n)) (signed_decimal (number_of minus n))
value-integer false n fits = value-unsigned n (decimal n) (Spells-decimal n (below-printed false n fits))
value-integer true zero fits = value-unsigned 0 (decimal 0) (Spells-decimal 0 (omega arith))
value-integer true (suc n) fits =
    let sign : (suc n == 0) ≡ false = ne_eqb (suc n) 0 (λ e. omega arith) in
    subst (λ t. IsValue (integer (not t) (suc n)) (45 ∷ decimal (suc n))) (sym sign)
    (value-signed (suc n) (decimal (suc n)) (Spells-decimal (suc n) (below-printed true (suc n) fits)))
