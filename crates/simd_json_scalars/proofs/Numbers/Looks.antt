-- What one look at the digits tells of a literal: the end of its integer part, and that of its fraction.
use Rattle.std.proofs.Common.{◌≡◌, ◌≢◌, refl, sym, ap, subst, ◌∙◌, ℕ, ◌+◌, ◌<◌, ◌≤◌, ◌⊎◌, inl, inr, List, length, take, drop, Bool}
use Rattle.std.proofs.Common.{true, false, ◌&&◌, ◌==◌, leb, if◌then◌else◌, Result, Ok, Err, arith}
use mir.Val.{bool_byte}
use Rattle.std.specs.Char.{is_ascii_digit}
use Rattle.std.specs.List.{prefix_len}
use Rattle.std.specs.Str.Parse.{digits_value}
use Rattle.std.proofs.lemmas.Bool.{cases_Bool, both_ways, cond-true, cond-false, eqb-true, eq-eqb, ne_eqb, leb-true, agree_below_at}
use Rattle.std.proofs.lemmas.Bool.{and_parts, and_from, false_from_ne_true}
use Rattle.std.proofs.lemmas.List.{drop-take, get_or-take, length-take-le}
use Rattle.simd_json_parts.specs.Bytes.{byte_at, is_terminator}
use Rattle.simd_json_parts.specs.Integers.{max_magnitude_64}
use Rattle.simd_json_parts.specs.Patterns.{optional, Matches}
use Rattle.simd_json_parts.specs.Derivatives.{matches, longest_prefix}
use Rattle.simd_json_scalars.specs.NumeralRead.{IsNumeralAt}
use Rattle.simd_json_scalars.specs.declared.numberparse.Numeral.{Numeral}
use Rattle.simd_json_scalars.specs.declared.numberparse.Numeral.TheVariants.{Integer, Decimal, Invalid}
use Rattle.simd_json_parts.specs.Numbers.{number_literal, integer_literal, has_minus, exp}
use Rattle.simd_json_scalars.proofs.Numbers.Prefixes.{reported, Reads, Leads-Reads}
use Rattle.simd_json_scalars.proofs.Numbers.Reader.{read-onward, number_at-part, number_at-after, number_at-longer, integer-literal}
use Rattle.simd_json_scalars.proofs.Numbers.Reader.{read-split, read-after}
use Rattle.simd_json_scalars.proofs.Numbers.Values.{after_start, after_start-is, short-in_range, number_at-numeral}
use Rattle.simd_json_scalars.proofs.Numbers.Steps.{SignEnd, IsWhole, int-whole, after_int, no-fraction, fraction-exponent, no-exponent}

-- the integer part, a zero alone or digits
pub run-whole : (b : List ℕ) (start whole : ℕ) → SignEnd b start → whole ≡ start + prefix_len is_ascii_digit (drop start b) → whole ≢ start
    → (byte_at b start ≡ 48 → whole ≡ start + 1) → IsWhole b whole
run-whole b start whole sign run some zero = int-whole b start whole sign end some
  where
    end : whole ≡ (if byte_at b start == 48 then start + 1 else start + prefix_len is_ascii_digit (drop start b))
    end =
        elim (cases_Bool (byte_at b start == 48)) [
          | inl t ↦ zero (eqb-true (byte_at b start) 48 t) ∙ sym (cond-true _ _ _ t)
          | inr f ↦ run ∙ sym (cond-false _ _ _ f)
        ]

-- no fraction, or a point and digits
abbrev pub IsFraction : List ℕ → ℕ → ℕ → Type 0
IsFraction b whole end = (byte_at b whole ≢ 46) × (end ≡ whole) ⊎ (byte_at b whole ≡ 46)
    × (end ≡ whole + 1 + prefix_len is_ascii_digit (drop (whole + 1) b)) × (whole + 1 < end)

module _ (b : List ℕ) (whole end : ℕ) (w : IsWhole b whole) (f : IsFraction b whole end) where
  -- What is read of an exponent is read of the number.
  pub seen-number : (result : Result ℕ ℕ) → Reads (optional exp) b end result → Reads number_literal b 0 result
  seen-number result r = Leads-Reads _ _ _ _ _ _ w.number (after f r)
    where
      after : IsFraction b whole end → Reads (optional exp) b end result → Reads after_int b whole result
      after (inl (n, e)) r = no-fraction b whole result w.number.inside n (rw e at r)
      after (inr (e, run, some)) r = fraction-exponent b whole end result e run some r

  -- Before a terminator the number ends.
  pub seen-end : end < length b → is_terminator (byte_at b end) ≡ true → Reads number_literal b 0 (Ok end)
  seen-end inside t = seen-number (Ok end) (no-exponent b end (omega arith) t)

  -- An exponent makes it longer than its integer part.
  pub seen-longer : (k : ℕ) → Reads (optional exp) b end (Ok k) → is_terminator (byte_at b end) ≡ false
      → is_terminator (byte_at b k) ≡ true → k ≢ whole
  seen-longer k r other t e =
      let far : end ≤ k = read-onward (optional exp) b end k r in
      let near : whole ≤ end = grind arith in
      let same : k ≡ end = omega arith in
      both_ways (is_terminator (byte_at b end)) other (ap (λ n. is_terminator (byte_at b n)) (sym same) ∙ t)

  -- So where an exponent may stand, a decimal ends after it, or else the fault is where it breaks off.
  module _ (i : ℕ) (bs : List ℕ) (at : drop i bs ≡ b) (other : is_terminator (byte_at b end) ≡ false) where
    abbrev far : ℕ
    far = longest_prefix (optional exp) (drop end b)

    abbrev ended : Bool → Bool → Numeral
    ended exponent ends = if exponent && ends then Decimal (end + far) else Invalid (end + far)

    at-tests : (exponent ends : Bool) → matches (optional exp) (take far (drop end b)) ≡ exponent
        → is_terminator (byte_at b (end + far)) ≡ ends
        → IsNumeralAt bs i (ended exponent ends)
    at-tests true true x t =
        let r : Reads (optional exp) b end (Ok (end + far)) = sym (ap (λ y. reported y (end + far)) x) in
        number_at-longer bs i b at (end + far) (seen-number (Ok (end + far)) r) whole w (seen-longer (end + far) r other t) t
    at-tests true false x t =
        let r : Reads (optional exp) b end (Ok (end + far)) = sym (ap (λ y. reported y (end + far)) x) in
        number_at-after bs i b at (end + far) (seen-number (Ok (end + far)) r) t
    at-tests false ends x t =
        let r : Reads (optional exp) b end (Err (end + far)) = sym (ap (λ y. reported y (end + far)) x) in
        number_at-part bs i b at (end + far) (seen-number (Err (end + far)) r)

    pub seen-exponent : IsNumeralAt bs i (ended (matches (optional exp) (take far (drop end b))) (is_terminator (byte_at b (end + far))))
    seen-exponent = at-tests _ _ refl refl

-- ---- a number whose digits were seen

-- where the digits begin, at the second byte at most
pub sign-le : (l : List ℕ) (start : ℕ) → SignEnd l start → start ≤ 1
sign-le l start (inl (minus, at)) = omega arith
sign-le l start (inr (other, at)) = omega arith

pub terminator-no_digit : (c : ℕ) → is_terminator c ≡ true → is_ascii_digit c ≡ false
terminator-no_digit c t =
    false_from_ne_true _ (λ d.
    let range : (leb 48 c ≡ true) × (leb c 57 ≡ true) = and_parts _ _ d in
    let near : c < 58 = omega (arith, leb-true c 57 range.1) in
    let never : (is_terminator c && is_ascii_digit c) ≡ false =
    agree_below_at (λ x. is_terminator x && is_ascii_digit x) (λ _. false) 58 c refl near in
    both_ways (is_terminator c && is_ascii_digit c) never (and_from _ _ t d))

sign-start : (l : List ℕ) (start whole : ℕ) → SignEnd l start → 0 < whole → bool_byte (has_minus (take whole l)) ≡ start
sign-start l start whole sign some =
    let first : byte_at (take whole l) 0 ≡ byte_at l 0 = get_or-take whole l 0 32 some in
    ap (λ c. bool_byte (c == 45)) first ∙ by sign
  where
    by : SignEnd l start → bool_byte (byte_at l 0 == 45) ≡ start
    by (inl (minus, at)) = ap bool_byte (eq-eqb (byte_at l 0) 45 minus) ∙ sym at
    by (inr (other, at)) = ap bool_byte (ne_eqb (byte_at l 0) 45 other) ∙ sym at

module _ (b : List ℕ) (i : ℕ) (l : List ℕ) (e : drop i b ≡ l) (start len : ℕ) (sign : SignEnd l start)
    (run : len ≡ prefix_len is_ascii_digit (drop start l)) (some : 0 < len) (zero : byte_at l start ≡ 48 → len ≡ 1) where
  whole : IsWhole l (start + len)
  whole = run-whole l start (start + len) sign (ap (λ n. start + n) run) (omega arith) (λ z. ap (λ n. start + n) (zero z))

  -- a point, digits and a terminator after them
  pub seen-decimal : byte_at l (start + len) ≡ 46 → (end : ℕ)
      → end ≡ start + len + 1 + prefix_len is_ascii_digit (drop (start + len + 1) l) → start + len + 1 < end → end < length l
      → is_terminator (byte_at l end) ≡ true → IsNumeralAt b i (Decimal end)
  seen-decimal point end digits more inside after =
      number_at-longer b i l e end (seen-end l (start + len) end whole (inr (point, digits, more)) inside after) (start + len) whole
      (λ same. omega arith) after

  -- a terminator after them
  pub seen-integer : start + len < length l → is_terminator (byte_at l (start + len)) ≡ true
      → (value : ℕ) → start + len ≤ 19 → value ≡ digits_value 10 (take len (drop start l)) → IsNumeralAt b i (Integer value)
  seen-integer inside after value short v =
      let end : ℕ = start + len in
      let literal : List ℕ = take end l in
      let no_point : byte_at l end ≢ 46 = λ p. both_ways (is_terminator 46) refl (ap is_terminator (sym p) ∙ after) in
      let reads : Reads number_literal l 0 (Ok end) = seen-end l end end whole (inl (no_point, refl)) inside after in
      let matched : Matches integer_literal literal = integer-literal l end whole in
      let digits : after_start literal ≡ take len (drop start l) =
      after_start-is literal ∙ ap (λ n. drop n literal) (sign-start l start end sign (omega arith)) ∙ drop-take start len l in
      let worth : value ≡ digits_value 10 (after_start literal) = v ∙ ap (digits_value 10) (sym digits) in
      let fits : digits_value 10 (after_start literal) ≤ max_magnitude_64 (has_minus literal) =
      short-in_range literal matched (omega (arith, length-take-le end l (omega arith))) in
      number_at-numeral b i literal (drop end l) (read-split b i l e end reads) (read-after b i l e end reads after) matched
      value worth (subst (λ n. n ≤ max_magnitude_64 (has_minus literal)) (sym worth) fits)
