-- The number at an index, from how its literal was read: where it breaks off, where something else follows, and a decimal.
use Rattle.std.proofs.Common.{◌≡◌, ◌≢◌, refl, sym, ◌∙◌, ap, ℕ, ◌+◌, ◌≤◌, ◌<◌, inl, inr, List, [], ◌∷◌, ◌++◌, length, take, drop, Bool, true}
use Rattle.std.proofs.Common.{false, ◌&&◌, ◌==◌, nat_lt, IsTrue, if◌then◌else◌, Option, Some, None, Result, Ok, Err, length-drop, arith}
use mir.Val.{bool_byte}
use Rattle.std.specs.Char.{is_ascii_digit}
use Rattle.std.specs.List.{prefix_len}
use Rattle.std.proofs.lemmas.Bool.{and_left, and_right, both_ways, cases_lt, cases_Bool, eqb-true, eqb-false, cond-false}
use Rattle.std.proofs.lemmas.List.{take-append-drop, get_or-drop, length-take-le, drop_all}
use Rattle.simd_json_parts.specs.Bytes.{is_terminator, byte_at}
use Rattle.simd_json_parts.specs.Document.{Document, integer, decimal}
use Rattle.simd_json_parts.specs.Integers.{max_magnitude}
use Rattle.simd_json_parts.specs.Patterns.{Pattern, never, empty, Matches}
use Rattle.simd_json_parts.specs.Derivatives.{matches, longest_prefix}
use Rattle.simd_json_parts.specs.Numbers.{number_literal, integer_literal, decimal_literal, has_minus, magnitude}
use Rattle.simd_json_parts.specs.NumberAt.{number_at, number_between, integer_or, first_excess}
use Rattle.simd_json_parts.specs.Faults.{fault_at}
use Rattle.simd_json_parts.specs.declared.error.Error.{Error}
use Rattle.simd_json_parts.specs.declared.error.ErrorType.TheVariants.{InvalidNumber}
use Rattle.simd_json_parts.proofs.Patterns.Sets.{Matches-matches, matches-Matches, longest_prefix-le, matches-never}
use Rattle.simd_json_scalars.proofs.Numbers.Literals.{number-integer_or_decimal, number_at-decimal}
use Rattle.simd_json_scalars.proofs.Numbers.Prefixes.{reported, Leads, Reads}
use Rattle.simd_json_scalars.proofs.Numbers.Steps.{SignEnd, IsWhole, int-whole, int-none}

reported-Ok : (t : Bool) (n k : ℕ) → Ok k ≡ reported t n → (t ≡ true) × (k ≡ n)
reported-Ok true n k e = (refl, cc)
reported-Ok false n k e = cc

-- what is read ends no earlier than it begins
pub read-onward : (p : Pattern) (b : List ℕ) (i k : ℕ) → Reads p b i (Ok k) → i ≤ k
read-onward p b i k r =
    let n : ℕ = longest_prefix p (drop i b) in
    let w : (matches p (take n (drop i b)) ≡ true) × (k ≡ i + n) = reported-Ok _ _ _ r in
    omega arith

reported-Err : (t : Bool) (n k : ℕ) → Err k ≡ reported t n → (t ≡ false) × (k ≡ n)
reported-Err true n k e = cc
reported-Err false n k e = (refl, cc)

matches-empty : (bs : List ℕ) → 0 < length bs → matches empty bs ≡ false
matches-empty [] l = absurd (omega arith)
matches-empty (x ∷ bs) l = matches-never bs

module _ (b : List ℕ) (i : ℕ) (l : List ℕ) (e : drop i b ≡ l) where
  at-prefix : number_at b i ≡ (let n = longest_prefix number_literal l in number_between b i (take n l) (i + n))
  unfolding number_at
  at-prefix = ap (λ bs. let n = longest_prefix number_literal bs in number_between b i (take n bs) (i + n)) e

  after-prefix : (k : ℕ) → byte_at b (i + k) ≡ byte_at l k
  after-prefix k = sym (get_or-drop i b k 32) ∙ ap (λ bs. byte_at bs k) e

  -- no literal at all
  pub number_at-part : (k : ℕ) → Reads number_literal l 0 (Err k) → number_at b i ≡ Err (fault_at b InvalidNumber (i + k))
  number_at-part k r =
      let n : ℕ = longest_prefix number_literal l in
      let w : (matches number_literal (take n l) ≡ false) × (k ≡ 0 + n) = reported-Err _ _ _ r in
      let same : n ≡ k = omega arith in
      at-prefix ∙ cond-false _ _ _ (and_left _ _ w.0) ∙ ap (λ m. Err (fault_at b InvalidNumber (i + m))) same

  module _ (k : ℕ) (r : Reads number_literal l 0 (Ok k)) where
    read-end : longest_prefix number_literal l ≡ k
    read-end =
        let n : ℕ = longest_prefix number_literal l in
        let w : (matches number_literal (take n l) ≡ true) × (k ≡ 0 + n) = reported-Ok _ _ _ r in
        omega arith

    -- a literal, and then something else
    pub number_at-after : is_terminator (byte_at l k) ≡ false → number_at b i ≡ Err (fault_at b InvalidNumber (i + k))
    number_at-after t =
        let n : ℕ = longest_prefix number_literal l in
        at-prefix
        ∙ cond-false _ _ _ (and_right _ _ (ap is_terminator (after-prefix n) ∙ ap (λ m. is_terminator (byte_at l m)) read-end ∙ t))
        ∙ ap (λ m. Err (fault_at b InvalidNumber (i + m))) read-end

    read-literal : Matches number_literal (take k l)
    read-literal =
        matches-Matches number_literal (take k l)
        (ap (λ m. matches number_literal (take m l)) (sym read-end)
        ∙ (reported-Ok (matches number_literal (take (longest_prefix number_literal l) l)) _ _ r).0)

    pub read-inside : k ≤ length l
    read-inside = omega (arith, read-end, longest_prefix-le number_literal l)

    pub read-split : drop i b ≡ take k l ++ drop k l
    read-split = e ∙ sym (take-append-drop k l)

    pub read-after : is_terminator (byte_at l k) ≡ true → IsTrue (is_terminator (byte_at (drop k l) 0))
    read-after t = ap is_terminator (get_or-drop k l 0 32) ∙ ap (λ m. is_terminator (byte_at l m)) (omega arith) ∙ t

    -- a literal that goes on after its integer part
    module _ (whole : ℕ) (w : IsWhole l whole) (other : k ≢ whole) where
      decimal-literal : Matches decimal_literal (take k l)
      decimal-literal =
          let more : whole < k = omega (arith, read-end, w.number.prefix) in
          let after : 0 < length (drop whole (take k l)) = omega (arith, length-drop whole (take k l), length-take-le k l read-inside) in
          let no : matches integer_literal (take k l) ≡ false =
          w.integer.member k (omega arith) ∙ matches-empty (drop whole (take k l)) after in
          elim (number-integer_or_decimal (take k l) read-literal) [
            | inl m ↦ absurd (both_ways (matches integer_literal (take k l)) no (Matches-matches integer_literal (take k l) m))
            | inr m ↦ m
          ]

      pub number_at-longer : is_terminator (byte_at l k) ≡ true → number_at b i ≡ Ok (decimal (take k (drop i b)), i + k)
      number_at-longer t =
          number_at-decimal b i (take k l) (drop k l) read-split (read-after t) decimal-literal
          ∙ ap (λ n. Ok (decimal (take k l), i + n)) (length-take-le k l read-inside)
          ∙ ap (λ bs. Ok (decimal (take k bs), i + k)) (sym e)

pub integer-literal : (l : List ℕ) (whole : ℕ) → IsWhole l whole → Matches integer_literal (take whole l)
integer-literal l whole w =
    matches-Matches integer_literal (take whole l)
    (w.integer.member whole (omega arith)
    ∙ ap (matches empty) (drop_all whole (take whole l) (omega (arith, length-take-le whole l w.integer.inside))))

-- ---- the end of an integer

abbrev end_of : Result (Document × ℕ) Error → ℕ
end_of (Ok read) = read.1
end_of (Err _) = 0

abbrev is_integer : Result (Document × ℕ) Error → Bool
is_integer (Ok (integer _ _, _)) = true
is_integer _ = false

-- Only an integer's literal with a terminator after it is read as an integer.
module _ (b : List ℕ) (i : ℕ) (literal : List ℕ) (end : ℕ) (minus : Bool) (n k : ℕ) where
  abbrev ranged : Bool → Result (Document × ℕ) Error
  ranged t = if t then Err (fault_at b InvalidNumber end) else Ok (integer (has_minus literal) (magnitude literal), end)

  at-range : (t : Bool) → ranged t ≡ Ok (integer minus n, k) → k ≡ end
  at-range true e = cc
  at-range false e = sym (ap end_of e)

  at-excess : (excess : Option ℕ) → integer_or b i literal end excess ≡ Ok (integer minus n, k) → k ≡ end
  at-excess (Some at) e = cc
  at-excess None e = at-range (nat_lt (max_magnitude (has_minus literal)) (magnitude literal)) e

  abbrev between : Bool → Bool → Bool → Result (Document × ℕ) Error
  between number ends whole =
      if number && ends
      then (if whole then integer_or b i literal end (first_excess literal) else Ok (decimal literal, end))
      else Err (fault_at b InvalidNumber end)

  at-tests : (number ends whole : Bool) → between number ends whole ≡ Ok (integer minus n, k) → (number ≡ true) × (whole ≡ true) × (k ≡ end)
  at-tests true true true e = (refl, refl, at-excess (first_excess literal) e)
  at-tests true true false e =
      let apart : false ≡ true = ap is_integer e in
      cc
  at-tests true false whole e = cc
  at-tests false ends whole e = cc

  integer-between : number_between b i literal end ≡ Ok (integer minus n, k)
      → (matches number_literal literal ≡ true) × (matches integer_literal literal ≡ true) × (k ≡ end)
  integer-between e = at-tests (matches number_literal literal) (is_terminator (byte_at b end)) (matches integer_literal literal) e

matches-never-false : (bs : List ℕ) → matches never bs ≡ false
matches-never-false [] = refl
matches-never-false (x ∷ bs) = matches-never bs

pub sign-end : (l : List ℕ) → SignEnd l (bool_byte (byte_at l 0 == 45))
sign-end l =
    elim (cases_Bool (byte_at l 0 == 45)) [
      | inl t ↦ inl (eqb-true (byte_at l 0) 45 t, ap bool_byte t)
      | inr f ↦ inr (eqb-false (byte_at l 0) 45 f, ap bool_byte f)
    ]

-- The end of its integer part is the end of the integer.
pub integer-end : (b : List ℕ) (i : ℕ) (l : List ℕ) → drop i b ≡ l → (start whole : ℕ) → SignEnd l start
    → whole ≡ (if byte_at l start == 48 then start + 1 else start + prefix_len is_ascii_digit (drop start l))
    → (minus : Bool) (n k : ℕ) → number_at b i ≡ Ok (integer minus n, k) → k ≡ i + whole
integer-end b i l e start whole sign run minus n k r =
    let far : ℕ = longest_prefix number_literal l in
    let read : (matches number_literal (take far l) ≡ true) × (matches integer_literal (take far l) ≡ true) × (k ≡ i + far) =
    integer-between b i (take far l) (i + far) minus n k (sym (at-prefix b i l e) ∙ r) in
    let within : far ≤ length l = longest_prefix-le number_literal l in
    let size : length (take far l) ≡ far = length-take-le far l within in
    let some : whole ≢ start = λ none.
    let x : Leads l number_literal 0 never whole = int-none l start whole sign run none in
    both_ways (matches number_literal (take far l))
    (x.member far (omega (arith, x.prefix)) ∙ matches-never-false (drop whole (take far l))) read.0 in
    let w : IsWhole l whole = int-whole l start whole sign run some in
    let near : whole ≤ far = omega (arith, w.number.prefix) in
    let rest : List ℕ = drop whole (take far l) in
    let empties : matches empty rest ≡ true = sym (w.integer.member far near) ∙ read.1 in
    elim (cases_lt 0 (length rest)) [
      | inl more ↦ absurd (both_ways (matches empty rest) (matches-empty rest more) empties)
      | inr none ↦ omega (arith, length-drop whole (take far l))
    ]
