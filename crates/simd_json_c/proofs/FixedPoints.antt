-- Digits, a point and digits after an optional minus are a number, and the float nearest to it is that of the digits without
-- the point, scaled down.
use Rattle.std.proofs.Common.{◌≡◌, refl, sym, ◌∙◌, ap, ap₂, subst, ℕ, zero, suc, ◌+◌, ◌*◌, ◌^◌, ◌≤◌, ◌<◌, inl, inr, List, [], ◌∷◌, ◌++◌}
use Rattle.std.proofs.Common.{length, ◌-◌, take, drop, get_or, length-drop, Bool, true, false, ◌⊎◌, arith, ◌==◌, pos, neg_ℤ, Some, Ok}
use mir.Val.{bool_byte}
use Rattle.std.specs.Float.{binary64}
use Rattle.std.specs.Float.Ieee.{round}
use Rattle.std.specs.Float.Numeral.{Parts, nearest_float, text_of}
use Rattle.std.specs.Float.Parse.{parse_float}
use Rattle.std.specs.Fmt.{sign_text}
use Rattle.std.specs.Str.Parse.{AllDigits, digits_value}
use Rattle.std.proofs.lemmas.Bool.{eqb-true, false≢true}
use Rattle.std.proofs.lemmas.Float.Parse.{parse_float-text_of}
use Rattle.std.proofs.Math.Seq.{drop-append_seam, take-append_seam}
use Rattle.std.proofs.lemmas.List.{append-nil, drop_more, get_or-take, length-append, length-take-le, take_all, take-append-drop}
use Rattle.std.proofs.lemmas.Str.Parse.{digit_at}
use Rattle.fast_float.specs.Rounding.{nearest_to_decimal}
use Rattle.simd_json_parts.specs.Bytes.{byte_at}
use Rattle.simd_json_parts.specs.Document.{decimal}
use Rattle.simd_json_parts.specs.Numbers.{digit, int, frac, minus, decimal_literal}
use Rattle.simd_json_parts.specs.Patterns.{many, optional, Matches}
use Rattle.simd_json_scalars.proofs.Numbers.Literals.{number_at-decimal}
use Rattle.simd_json_scalars.proofs.Numbers.Values.{digits_value-fits, digits_value-join}
use Rattle.simd_json_c.proofs.DigitTails.{all-digits}
use Rattle.simd_json_c.specs.Doubles.{IsFixedPoint, IsNumber}

many-digits : (ds : List ℕ) → AllDigits 10 ds → Matches (many digit) ds
many-digits [] all = ([], refl, tt)
many-digits (c ∷ ds) all =
    let here : (48 ≤ c) × (c ≤ 57) = digit_at (c ∷ ds) 0 all (omega arith) in
    let rest : Matches (many digit) ds = many-digits ds all.1 in
    ((c ∷ []) ∷ rest.0, ap (λ us. c ∷ us) rest.1, ((c, refl, here.0, here.1), rest.2))

-- Digits of which the first is 0 only if it is alone.
whole-int : (ds : List ℕ) → AllDigits 10 ds → 0 < length ds → (get_or ds 0 0 ≡ 48 → length ds ≡ 1) → Matches int ds
whole-int [] all some alone = absurd (omega arith)
whole-int (c ∷ []) all some alone =
    let here : (48 ≤ c) × (c ≤ 57) = digit_at (c ∷ []) 0 all some in
    elim (cases c here.0) [
      | inl e ↦ inl (c, refl, omega (arith, e), omega (arith, e))
      | inr l ↦ inr (c ∷ [], [], refl, (c, refl, omega arith, here.1), many-digits [] tt)
    ]
  where
    cases : (c : ℕ) → 48 ≤ c → (c ≡ 48) ⊎ (48 < c)
    cases c l = grind arith
whole-int (c ∷ d ∷ ds) all some alone =
    let here : (48 ≤ c) × (c ≤ 57) = digit_at (c ∷ d ∷ ds) 0 all some in
    let other : 48 < c = grind arith in
    inr (c ∷ [], d ∷ ds, refl, (c, refl, omega arith, here.1), many-digits (d ∷ ds) all.1)

signed : (negative : Bool) → Matches (optional minus) (sign_text negative)
signed true = inr (45, refl, omega arith, omega arith)
signed false = inl refl

fraction : (ds : List ℕ) → AllDigits 10 ds → 0 < length ds → Matches frac (46 ∷ ds)
fraction [] all some = absurd (omega arith)
fraction (c ∷ ds) all some =
    let here : (48 ≤ c) × (c ≤ 57) = digit_at (c ∷ ds) 0 all some in
    (46 ∷ [], c ∷ ds, refl, (46, refl, omega arith, omega arith), (c ∷ [], ds, refl, (c, refl, here.0, here.1), many-digits ds all.1))

-- Bytes are a sign, if one is there, and what is behind it.
pub front-sign : (l : List ℕ) → l ≡ sign_text (byte_at l 0 == 45) ++ drop (bool_byte (byte_at l 0 == 45)) l
front-sign [] = refl
front-sign (c ∷ cs) = by (c == 45) refl
  where
    by : (t : Bool) → (c == 45) ≡ t → c ∷ cs ≡ sign_text t ++ drop (bool_byte t) (c ∷ cs)
    by true e = ap (λ x. x ∷ cs) (eqb-true c 45 e)
    by false e = refl

module _ (negative : Bool) (b digits : List ℕ) (n k : ℕ) (is : b ≡ sign_text negative ++ digits) (f : IsFixedPoint digits n k) where
  literal : Matches decimal_literal b
  literal = (
    sign_text negative,
    digits,
    is,
    signed negative,
    (
      f.whole,
      46 ∷ f.behind,
      f.parts,
      whole-int f.whole f.digits f.some f.alone,
      inl (46 ∷ f.behind, [], sym (append-nil (46 ∷ f.behind)), fraction f.behind f.places f.more, inl refl),
    ),
  )

  pub is-number : IsNumber b
  is-number =
      (decimal b, number_at-decimal b 0 b [] (sym (append-nil b)) refl literal ∙ ap (λ k. Ok (decimal b, k)) (omega arith))

  abbrev numeral : Parts
  numeral = record {
    whole = f.whole;
    point = true;
    fraction = f.behind;
    exponent_negative = false;
    exponent = [];
    len = length digits;
  }

  spelt : text_of numeral ≡ digits
  spelt = ap (λ r. f.whole ++ r) (append-nil (46 ∷ f.behind)) ∙ sym f.parts

  scaled : nearest_float binary64 negative numeral ≡ nearest_to_decimal binary64 negative n (neg_ℤ (pos k))
  scaled = subst (λ j. round binary64 negative (digits_value 10 (f.whole ++ f.behind) * 10 ^ 0) (10 ^ (length f.behind + 0))
      ≡ nearest_to_decimal binary64 negative n (neg_ℤ (pos j))) (sym f.count) (by (length f.behind) f.more)
    where
      by : (j : ℕ) → 0 < j → round binary64 negative (digits_value 10 (f.whole ++ f.behind) * 10 ^ 0) (10 ^ (j + 0))
          ≡ nearest_to_decimal binary64 negative n (neg_ℤ (pos j))
      by zero some = absurd (omega arith)
      by (suc j) some =
          ap₂ (round binary64 negative) {x = digits_value 10 (f.whole ++ f.behind) * 10 ^ 0} {y = n} (omega (arith, f.value))
          (ap (λ m. 10 ^ m) {x = suc j + 0} {y = suc j} (omega arith))

  pub nearest-is : parse_float binary64 b ≡ Some (nearest_to_decimal binary64 negative n (neg_ℤ (pos k)))
  nearest-is =
      ap (parse_float binary64) (is ∙ ap (λ t. sign_text negative ++ t) (sym spelt))
      ∙ parse_float-text_of binary64 negative numeral record {
        whole_digits = f.digits;
        fraction_digits = f.places;
        exponent_digits = tt;
        no_point = λ e. absurd (false≢true (sym e));
        no_exponent = λ _. refl;
        len_is = sym (ap length spelt);
      } f.some
      ∙ ap Some scaled

-- ---- bytes cut at their point

module _ (bs : List ℕ) (point : ℕ) (some : 0 < point) (inside : point + 1 < length bs) (is : get_or bs point 0 ≡ 46)
    (alone : get_or bs 0 0 ≡ 48 → point ≡ 1) (digits : AllDigits 10 (take point bs)) (places : AllDigits 10 (drop (point + 1) bs))
    (whole behind power : ℕ) (front : whole ≡ digits_value 10 (take point bs)) (back : behind ≡ digits_value 10 (drop (point + 1) bs))
    (tens : power ≡ 10 ^ (length bs - point - 1)) where
  size : length (take point bs) ≡ point
  size = length-take-le point bs (omega arith)

  more : length (drop (point + 1) bs) ≡ length bs - point - 1
  more = omega (arith, length-drop (point + 1) bs)

  abbrev all : List ℕ
  all = take point bs ++ drop (point + 1) bs

  value-is : whole * power + behind ≡ digits_value 10 all
  value-is =
      let first : take point all ≡ take point bs =
      ap (λ n. take n all) (sym size) ∙ take-append_seam (take point bs) (drop (point + 1) bs) in
      let last : drop point all ≡ drop (point + 1) bs =
      ap (λ n. drop n all) (sym size) ∙ drop-append_seam (take point bs) (drop (point + 1) bs) in
      ap₂ (λ w p. w * p + behind) (front ∙ ap (digits_value 10) (sym first))
      (tens ∙ ap (λ n. 10 ^ n) (sym (ap length last ∙ more)))
      ∙ ap (λ d. digits_value 10 (take point all) * 10 ^ length (drop point all) + d) (back ∙ ap (digits_value 10) (sym last))
      ∙ sym (digits_value-join point all)

  pub cut-at : IsFixedPoint bs (whole * power + behind) (length bs - point - 1)
  cut-at = record {
    whole = take point bs;
    behind = drop (point + 1) bs;
    parts =
        sym (take-append-drop point bs)
        ∙ ap (λ r. take point bs ++ r)
        (drop_more bs point 0 (omega arith) ∙ ap (λ c. c ∷ drop (point + 1) bs) is);
    digits = digits;
    places = places;
    some = omega (arith, size);
    alone = λ zero. size ∙ alone (sym (get_or-take point bs 0 0 some) ∙ zero);
    more = omega (arith, more);
    value = value-is;
    count = sym more;
  }

  -- at most nineteen digits
  pub cut-fits : length bs ≤ 20 → whole * power + behind < 2 ^ 64
  cut-fits short =
      let len : length all ≤ 19 = omega (arith, length-append (take point bs) (drop (point + 1) bs), size, more) in
      let front-is : take (length all) all ≡ all = take_all (length all) all (omega arith) in
      omega (
        arith,
        value-is,
        ap (digits_value 10) front-is,
        digits_value-fits all (length all) (all-digits (take point bs) (drop (point + 1) bs) digits places) len,
      )
