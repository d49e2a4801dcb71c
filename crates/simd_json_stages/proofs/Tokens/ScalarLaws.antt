-- The token of a scalar, by its first byte.
use Rattle.std.proofs.Common.{Bool, subst, zero, suc, ◌<◌, cond, take, ◌≡◌, refl, sym, ◌∙◌, ap, ℕ, ◌+◌, ◌≤◌, List, true, false, length}
use Rattle.std.proofs.Common.{drop, nat_eq, nat_le, ◌&&◌, ◌||◌, inl, inr, arith}
use Rattle.std.specs.Prelude.{Result, Option, Some, None, find, nat_lt, Ok, Err, codes, ◌==◌, if◌then◌else◌}
use Rattle.std.specs.List.{starts_with, range_with_len}
use Rattle.std.specs.Char.{is_ascii_digit}
use Rattle.std.proofs.lemmas.Bool.{and_parts, or_cases, ne_eqb, leb-true, eqb-true}
use Rattle.std.proofs.lemmas.List.{get_or-drop, length-drop, length-take-le}
use Rattle.simd_json_parts.specs.Bytes.{byte_at, is_terminator}
use Rattle.simd_json_parts.specs.Document.{Document, null, boolean, integer, decimal}
use Rattle.simd_json_parts.specs.Faults.{fault_at}
use Rattle.simd_json_parts.specs.AtomAt.{atom_or, atom_at}
use Rattle.simd_json_parts.specs.NumberAt.{number_at, number_between, integer_or, first_excess}
use Rattle.simd_json_parts.specs.Derivatives.{matches, longest_prefix}
use Rattle.simd_json_parts.specs.Numbers.{number_literal, integer_literal, has_minus, magnitude}
use Rattle.simd_json_parts.specs.Integers.{max_magnitude}
use Rattle.simd_json_parts.proofs.Patterns.Sets.{longest_prefix-le}
use Rattle.simd_json_parts.specs.declared.error.Error.{Error}
use Rattle.simd_json_parts.specs.Tokens.{Form, begin_array, end_array, begin_object, end_object, name_separator, value_separator}
use Rattle.simd_json_parts.specs.Tokens.{string_token, scalar, stray, form_of, form_at}
use Rattle.simd_json_parts.specs.StringAt.{string_at}
use Rattle.simd_json_stages.specs.Rejections.{rejected_kind}
use Rattle.simd_json_stages.specs.declared.stage2.fault.FaultKind.TheVariants as kinds
use Rattle.simd_json_parts.specs.declared.error.ErrorType.{ErrorType}
use Rattle.simd_json_parts.specs.declared.error.ErrorType.TheVariants.{ExpectedTrue, ExpectedFalse, ExpectedNull, InvalidNumber}

-- the byte so far after an index
pub byte_at-after : (b rest : List ℕ) (i n : ℕ) → drop i b ≡ rest → byte_at b (i + n) ≡ byte_at rest n
byte_at-after b rest i n e = sym (get_or-drop i b n 32) ∙ ap (λ l. byte_at l n) e

-- ---- true, false and null

pub data Word : Type 0 where
  word_true word_false word_null : Word

abbrev pub first_of : Word → ℕ
first_of word_true = 116
first_of word_false = 102
first_of word_null = 110

abbrev pub letters_of : Word → List ℕ
letters_of word_true = codes "true"
letters_of word_false = codes "false"
letters_of word_null = codes "null"

abbrev pub document_of : Word → Document
document_of word_true = boolean true
document_of word_false = boolean false
document_of word_null = null

abbrev pub kind_of : Word → ErrorType
kind_of word_true = ExpectedTrue
kind_of word_false = ExpectedFalse
kind_of word_null = ExpectedNull

abbrev by_first : List ℕ → ℕ → ℕ → Result (Document × ℕ) Error
by_first b i c = if c == 116 then atom_or (codes "true") (boolean true) ExpectedTrue b i else if c == 102 then atom_or
    (codes "false") (boolean false) ExpectedFalse b i else atom_or (codes "null") null ExpectedNull b i

form_at-first : (w : Word) (b : List ℕ) (i : ℕ) → byte_at b i ≡ first_of w
    → form_at b i ≡ scalar (atom_or (letters_of w) (document_of w) (kind_of w) b i)
unfolding form_at atom_at
form_at-first word_true b i f = ap (form_of b i) f ∙ ap (λ c. scalar (by_first b i c)) f
form_at-first word_false b i f = ap (form_of b i) f ∙ ap (λ c. scalar (by_first b i c)) f
form_at-first word_null b i f = ap (form_of b i) f ∙ ap (λ c. scalar (by_first b i c)) f

-- by the first letter, and whether the word is there
pub form_at-word : (w : Word) (t : Bool) (b rest : List ℕ) (i : ℕ) → drop i b ≡ rest → byte_at b i ≡ first_of w
    → (starts_with nat_eq rest (letters_of w) && is_terminator (byte_at rest (length (letters_of w)))) ≡ t
    → form_at b i ≡ scalar (if t then Ok (document_of w, i + length (letters_of w)) else Err (fault_at b (kind_of w) i))
form_at-word w t b rest i e f h =
    let n : ℕ = length (letters_of w) in
    form_at-first w b i f
    ∙ ap (λ t. scalar (if t then Ok (document_of w, i + n) else Err (fault_at b (kind_of w) i)))
    (ap (λ bs. starts_with nat_eq bs (letters_of w) && is_terminator (byte_at b (i + n))) e
    ∙ ap (λ c. starts_with nat_eq rest (letters_of w) && is_terminator c) (byte_at-after b rest i n e) ∙ h)

pub form_at-true : (b rest : List ℕ) (i : ℕ) → drop i b ≡ rest → byte_at b i ≡ 116
    → (starts_with nat_eq rest (codes "true") && is_terminator (byte_at rest 4)) ≡ true
    → form_at b i ≡ scalar (Ok (boolean true, i + 4))
form_at-true = form_at-word word_true true

pub form_at-false : (b rest : List ℕ) (i : ℕ) → drop i b ≡ rest → byte_at b i ≡ 102
    → (starts_with nat_eq rest (codes "false") && is_terminator (byte_at rest 5)) ≡ true
    → form_at b i ≡ scalar (Ok (boolean false, i + 5))
form_at-false = form_at-word word_false true

pub form_at-null : (b rest : List ℕ) (i : ℕ) → drop i b ≡ rest → byte_at b i ≡ 110
    → (starts_with nat_eq rest (codes "null") && is_terminator (byte_at rest 4)) ≡ true
    → form_at b i ≡ scalar (Ok (null, i + 4))
form_at-null = form_at-word word_null true

-- a form that is no atom and no number
abbrev pub is_no_scalar : Form → Bool
is_no_scalar (scalar read) = false
is_no_scalar _ = true

pub rejected_kind-other : (c : ℕ) → nat_eq c 116 ≡ false → nat_eq c 102 ≡ false → nat_eq c 110 ≡ false
    → rejected_kind c ≡ kinds.InternalError
rejected_kind-other c t f n = simp (t, f, n)

-- another byte than begins an atom or a number
pub form_at-no_scalar : (b : List ℕ) (i c : ℕ) → byte_at b i ≡ c → nat_eq c 116 ≡ false → nat_eq c 102 ≡ false
    → nat_eq c 110 ≡ false → ((c == 45) || is_ascii_digit c) ≡ false → is_no_scalar (form_at b i) ≡ true
unfolding form_at
form_at-no_scalar b i c e t f n d = ap is_no_scalar (ap (form_of b i) e) ∙ go
  where
    rest : (a z o y m k q : Bool) → (x : Form) → is_no_scalar x ≡ true
        → is_no_scalar (if a then begin_array else if z then end_array else if o then begin_object else if y then end_object else
        if m then name_separator else if k then value_separator else if q then x else stray) ≡ true
    rest true z o y m k q x h = refl
    rest false true o y m k q x h = refl
    rest false false true y m k q x h = refl
    rest false false false true m k q x h = refl
    rest false false false false true k q x h = refl
    rest false false false false false true q x h = refl
    rest false false false false false false true x h = h
    rest false false false false false false false x h = refl

    go : is_no_scalar (form_of b i c) ≡ true
    go = simp (t, f, n, d) (rest (c == 91) (c == 93) (c == 123) (c == 125) (c == 58) (c == 44) (c == 34)
        (string_token (string_at b i)) refl)

-- a minus sign or a digit
pub form_at-number : (b : List ℕ) (i c : ℕ) → byte_at b i ≡ c → ((c == 45) || is_ascii_digit c) ≡ true
    → form_at b i ≡ scalar (number_at b i)
unfolding form_at
form_at-number b i c e h = ap (form_of b i) e ∙ elim (or_cases _ _ h)
    [ inl minus ↦ ap (form_of b i) (eqb-true c 45 minus) | inr is ↦ of_digit is ]
  where
    of_digit : is_ascii_digit c ≡ true → form_of b i c ≡ scalar (number_at b i)
    of_digit is =
        let both : (nat_le 48 c ≡ true) × (nat_le c 57 ≡ true) = and_parts _ _ is in
        let low : 48 ≤ c = leb-true 48 c both.0 in
        let high : c ≤ 57 = leb-true c 57 both.1 in
        simp (
          ne_eqb c 91 (λ h. omega arith),
          ne_eqb c 93 (λ h. omega arith),
          ne_eqb c 123 (λ h. omega arith),
          ne_eqb c 125 (λ h. omega arith),
          ne_eqb c 58 (λ h. omega arith),
          ne_eqb c 44 (λ h. omega arith),
          ne_eqb c 34 (λ h. omega arith),
          ne_eqb c 116 (λ h. omega arith),
          ne_eqb c 102 (λ h. omega arith),
          ne_eqb c 110 (λ h. omega arith),
          ne_eqb c 45 (λ h. omega arith),
          both.0,
          both.1,
        )

-- ---- a number's fault lies within the input

found-below : (p : ℕ → Bool) (a n k : ℕ) → find p (range_with_len a n) ≡ Some k → k < a + n
found-below p a zero k h = cc
found-below p a (suc n) k h = go (p a) (λ e. found-below p (a + 1) n k e) h
  where
    go : (t : Bool) → (find p (range_with_len (a + 1) n) ≡ Some k → k < (a + 1) + n)
        → cond t (Some a) (find p (range_with_len (a + 1) n)) ≡ Some k → k < a + suc n
    go true more e = let same : a ≡ k = cc in omega arith
    go false more e = let later : k < (a + 1) + n = more e in omega arith

number_between-within : (b literal : List ℕ) (i end bound : ℕ) (e : Error) → end ≤ bound → i + length literal ≤ bound
    → number_between b i literal end ≡ Err e → e.index ≤ bound
number_between-within b literal i end bound e l k h = go (matches number_literal literal && is_terminator (byte_at b end))
    (matches integer_literal literal) h
  where
    rejected : (j : ℕ) → j ≤ bound → (let r : Result (Document × ℕ) Error = Err (fault_at b InvalidNumber j) in r ≡ Err e) → e.index ≤ bound
    rejected j m same = let is : fault_at b InvalidNumber j ≡ e = cc in subst (λ (f : Error). f.index ≤ bound) is m

    range : (t : Bool) → (let read : Result (Document × ℕ) Error = Ok (integer (has_minus literal) (magnitude literal), end) in
        (if t then Err (fault_at b InvalidNumber end) else read) ≡ Err e) → e.index ≤ bound
    range true same = rejected end l same
    range false same = cc

    excess : (o : Option ℕ) → first_excess literal ≡ o → integer_or b i literal end o ≡ Err e → e.index ≤ bound
    excess None is same = range (nat_lt (max_magnitude (has_minus literal)) (magnitude literal)) same
    excess (Some j) is same =
        let below : j < 0 + length literal = found-below _ 0 (length literal) j is in rejected (i + j) (omega arith) same

    go : (t u : Bool) → (let read : Result (Document × ℕ) Error = Ok (decimal literal, end) in
        (if t then (if u then integer_or b i literal end (first_excess literal) else read) else Err
        (fault_at b InvalidNumber end)) ≡ Err e) → e.index ≤ bound
    go true true same = excess (first_excess literal) refl same
    go true false same = cc
    go false u same = rejected end l same

pub number_at-within : (b : List ℕ) (i : ℕ) (e : Error) → i ≤ length b → number_at b i ≡ Err e → e.index ≤ length b
unfolding number_at
number_at-within b i e l h =
    let n : ℕ = longest_prefix number_literal (drop i b) in
    let most : n ≤ length (drop i b) = longest_prefix-le number_literal (drop i b) in
    number_between-within b (take n (drop i b)) i (i + n) (length b) e (omega (arith, length-drop i b))
    (omega (arith, length-drop i b, length-take-le n (drop i b) most)) h
