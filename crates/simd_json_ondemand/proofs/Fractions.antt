-- A number with a fraction and no exponent: what a scan finds of it is its literal, and the float nearest to it.
use Rattle.std.proofs.Common.{◌≡◌, refl, sym, ◌∙◌, ap, subst, ℕ, suc, ◌+◌, ◌-◌, ◌<◌, ◌≤◌, List, [], ◌∷◌, ◌++◌, length, take, drop, get_or}
use Rattle.std.proofs.Common.{Bool, true, false, cond, ◌==◌, ◌&&◌, inl, inr, arith, Some, slice_index, slice_range, take-add}
use Rattle.std.specs.Char.{is_ascii_digit}
use Rattle.std.specs.Float.{binary64}
use Rattle.std.specs.Float.Numeral.{Parts, scan_numeral, digits_end, exponent_start, exponent_text, has_exponent, text_of, nearest_float}
use Rattle.std.specs.Float.Parse.{parse_float}
use Rattle.std.specs.Fmt.{sign_text}
use Rattle.std.specs.List.{prefix_len}
use Rattle.std.specs.Str.Parse.{AllDigits}
use Rattle.std.proofs.lemmas.Bool.{eqb-true, eq-eqb, ne_eqb, cond_both, false≢true}
use Rattle.std.proofs.lemmas.Float.Parse.{parse_float-text_of}
use Rattle.std.proofs.lemmas.List.{append-nil, drop-drop, drop_more, get_or-drop, get_or-take, get_or_default, length-drop, length-take}
use Rattle.std.proofs.lemmas.List.{length-take-le}
use Rattle.std.proofs.lemmas.List.Sums.{prefix_len-le-length}
use Rattle.simd_json_parts.specs.Bytes.{byte_at, is_terminator}
use Rattle.simd_json_scalars.specs.NumeralRead.{IsNumeralAt}
use Rattle.simd_json_scalars.specs.declared.numberparse.Numeral.TheVariants.{Decimal}
use Rattle.simd_json_scalars.proofs.Numbers.Looks.{seen-decimal, sign-le}
use Rattle.simd_json_scalars.proofs.Numbers.Steps.{SignEnd}

-- digits, a point and digits
pub record HasFraction (bs : List ℕ) (p : Parts) : Type 0 where
  pub whole : p.whole ≡ slice_range bs 0 (digits_end bs 0)
  pub point : slice_index bs (digits_end bs 0) ≡ 46
  pub flag : p.point ≡ true
  pub fraction : p.fraction ≡ slice_range bs (digits_end bs 0 + 1) (digits_end bs (digits_end bs 0 + 1))
  pub negative : p.exponent_negative ≡ false
  pub exponent : p.exponent ≡ []
  pub len : p.len ≡ digits_end bs (digits_end bs 0 + 1)

module _ (bs : List ℕ) where
  abbrev point : ℕ
  point = digits_end bs 0

  abbrev end : ℕ
  end = digits_end bs (point + 1)

  abbrev end_by : Bool → ℕ
  end_by has_point = cond has_point end point

  abbrev parts_by : Bool → Bool → Parts
  parts_by has_point has = record {
    whole = slice_range bs 0 point;
    point = has_point;
    fraction = cond has_point (slice_range bs (point + 1) (end_by has_point)) [];
    exponent_negative = has && slice_index bs (end_by has_point + 1) == 45;
    exponent = cond has (slice_range bs (exponent_start bs (end_by has_point)) (digits_end bs (exponent_start bs (end_by has_point)))) [];
    len = cond has (digits_end bs (exponent_start bs (end_by has_point))) (end_by has_point);
  }

  scan-is : scan_numeral bs ≡ parts_by (slice_index bs point == 46) (has_exponent bs (end_by (slice_index bs point == 46)))
  unfolding scan_numeral
  scan-is = refl

  fits : (from : ℕ) → from ≤ length bs → digits_end bs from ≤ length bs
  fits from l = omega (arith, prefix_len-le-length is_ascii_digit (drop from bs), length-drop from bs)

  late : (n : ℕ) → n < exponent_start bs n
  late n = cond_both _ (n + 2) (n + 1) (λ k. n < k) (λ _. omega arith) (λ _. omega arith)

  by : (has_point has : Bool) → (slice_index bs point == 46) ≡ has_point → 0 < length (parts_by has_point has).fraction
      → (parts_by has_point has).len ≡ length (parts_by has_point has).whole + 1 + length (parts_by has_point has).fraction
      → HasFraction bs (parts_by has_point has)
  by false has e some same = absurd (omega arith)
  by true true e some same =
      let whole : length (slice_range bs 0 point) ≡ point - 0 =
      length-take-le (point - 0) (drop 0 bs) (omega (arith, prefix_len-le-length is_ascii_digit (drop 0 bs))) in
      let fraction : length (slice_range bs (point + 1) end) ≡ end - (point + 1) =
      length-take-le (end - (point + 1)) (drop (point + 1) bs) (omega (arith, prefix_len-le-length is_ascii_digit (drop (point + 1) bs))) in
      absurd (omega (arith, late end, some, same, whole, fraction))
  by true false e some same = record {
    whole = refl;
    point = eqb-true (slice_index bs point) 46 e;
    flag = refl;
    fraction = refl;
    negative = refl;
    exponent = refl;
    len = refl;
  }

  pub scanned : 0 < length (scan_numeral bs).fraction
      → (scan_numeral bs).len ≡ length (scan_numeral bs).whole + 1 + length (scan_numeral bs).fraction
      → HasFraction bs (scan_numeral bs)
  scanned some same =
      subst (HasFraction bs) (sym scan-is) (by _ _ refl (subst (λ p. 0 < length p.fraction) scan-is some)
      (subst (λ p. p.len ≡ length p.whole + 1 + length p.fraction) scan-is same))

-- ---- a number at the front of some bytes

pub first-digit : (l : List ℕ) (start : ℕ) (p : Parts) → HasFraction (drop start l) p → 0 < length p.whole → start < length l
    → byte_at l start ≡ get_or p.whole 0 0
first-digit l start p f some inside =
    let bs : List ℕ = drop start l in
    let n : ℕ = digits_end bs 0 in
    let len : length p.whole ≤ n = omega (arith, ap length f.whole ∙ length-take (n - 0) (drop 0 bs)) in
    get_or_default l start 32 0 inside ∙ ap (λ k. get_or l k 0) (omega arith) ∙ sym (get_or-drop start l 0 0)
    ∙ sym (ap (λ w. get_or w 0 0) f.whole ∙ get_or-take (n - 0) (drop 0 bs) 0 0 (omega (arith, len)))

module _ (l : List ℕ) (start : ℕ) (sign : SignEnd l start) (p : Parts) (f : HasFraction (drop start l) p)
    (some : 0 < length p.whole) (places : 0 < length p.fraction) (alone : byte_at l start ≡ 48 → length p.whole ≡ 1)
    (inside : start + p.len < length l) where
  abbrev bs : List ℕ
  bs = drop start l

  shorter : length bs ≡ length l - start
  shorter = length-drop start l

  whole-len : length p.whole ≡ point bs
  whole-len = ap length f.whole ∙ length-take-le (point bs - 0) (drop 0 bs) (omega (arith, fits bs 0 (omega arith))) ∙ omega arith

  places-len : length p.fraction ≡ end bs - (point bs + 1)
  places-len = ap length f.fraction
      ∙ length-take-le (end bs - (point bs + 1)) (drop (point bs + 1) bs)
      (omega (arith, length-drop (point bs + 1) bs, prefix_len-le-length is_ascii_digit (drop (point bs + 1) bs)))

  pub number-there : is_terminator (byte_at l (start + p.len)) ≡ true → (b : List ℕ) (i : ℕ) → drop i b ≡ l
      → IsNumeralAt b i (Decimal (start + p.len))
  number-there after b i e =
      let near : start ≤ 1 = sign-le l start sign in
      let here : byte_at l (start + point bs) ≡ 46 =
      sym (get_or_default l (start + point bs) 0 32 (omega (arith, f.len, inside))) ∙ sym (get_or-drop start l (point bs) 0) ∙ f.point in
      let behind : drop (point bs + 1) bs ≡ drop (start + point bs + 1) l =
      drop-drop (point bs + 1) start l ∙ ap (λ n. drop n l) (omega arith) in
      seen-decimal b i l e start (point bs) sign (omega arith) (omega (arith, some, whole-len)) (λ z. sym whole-len ∙ alone z) here
      (start + p.len) (omega (arith, f.len, ap (prefix_len is_ascii_digit) behind)) (omega (arith, f.len, places, places-len)) inside after

  text-is : text_of p ≡ take p.len bs
  text-is =
      let k : ℕ = end bs - (point bs + 1) in
      let whole : p.whole ≡ take (point bs) bs = f.whole ∙ ap (λ n. take n bs) (omega arith) in
      let from : drop (point bs) bs ≡ 46 ∷ drop (point bs + 1) bs =
      drop_more bs (point bs) 0 (omega (arith, shorter, inside, f.len)) ∙ ap (λ c. c ∷ drop (point bs + 1) bs) f.point in
      ap (λ x. p.whole ++ (cond x (46 ∷ p.fraction) [] ++ exponent_text p.exponent_negative p.exponent)) f.flag
      ∙ ap (λ es. p.whole ++ ((46 ∷ p.fraction) ++ exponent_text p.exponent_negative es)) f.exponent
      ∙ ap (λ r. p.whole ++ r) (append-nil (46 ∷ p.fraction))
      ∙ ap (λ w. w ++ (46 ∷ p.fraction)) whole ∙ ap (λ r. take (point bs) bs ++ (46 ∷ r)) f.fraction
      ∙ ap (λ r. take (point bs) bs ++ take (suc k) r) (sym from) ∙ sym (take-add (point bs) (suc k) bs)
      ∙ ap (λ n. take n bs) (omega (arith, f.len, places, places-len))

  signed : (minus : Bool) → minus ≡ (byte_at l 0 == 45) → take start l ≡ sign_text minus
  signed minus is = by-sign sign
    where
      by-sign : SignEnd l start → take start l ≡ sign_text minus
      by-sign (inl (here, at)) = ap (λ n. take n l) at ∙ ap (take 1) (drop_more l 0 32 (omega (arith, inside)))
          ∙ ap (λ c. c ∷ []) here ∙ ap sign_text (sym (is ∙ eq-eqb (byte_at l 0) 45 here))
      by-sign (inr (other, at)) = ap (λ n. take n l) at ∙ ap sign_text (sym (is ∙ ne_eqb (byte_at l 0) 45 other))

  pub float-there : AllDigits 10 p.whole → AllDigits 10 p.fraction → (minus : Bool) → minus ≡ (byte_at l 0 == 45)
      → parse_float binary64 (take (start + p.len) l) ≡ Some (nearest_float binary64 minus p)
  float-there whole fraction minus is =
      ap (parse_float binary64) (take-add start p.len l ∙ ap (λ s. s ++ take p.len bs) (signed minus is)
      ∙ ap (λ t. sign_text minus ++ t) (sym text-is))
      ∙ parse_float-text_of binary64 minus p record {
        whole_digits = whole;
        fraction_digits = fraction;
        exponent_digits = subst (AllDigits 10) (sym f.exponent) tt;
        no_point = λ e. absurd (false≢true (sym e ∙ f.flag));
        no_exponent = λ _. f.negative;
        len_is = sym (ap length text-is ∙ length-take-le p.len bs (omega (arith, shorter, inside)));
      } some
