-- A scan of the strings of an input from the left: what it knows at an index, and what it finds.
use Rattle.std.proofs.Common.{◌≡◌, refl, sym, ◌∙◌, ap, subst, ℕ, zero, suc, ◌+◌, ◌-◌, ◌<◌, ◌≤◌, inl, inr, List, length, Bool, true}
use Rattle.std.proofs.Common.{false, not, ◌&&◌, ◌||◌, ◌==◌, if◌then◌else◌, get_or, min, arith}
use Rattle.std.proofs.lemmas.Bool.{and_from, and_left, and_right, and_parts, cases_Bool, cases_lt, eqb-true, eq-eqb, le-ltb, lt-ltb}
use Rattle.std.proofs.lemmas.Bool.{ne_eqb, false≢true, or_cases, or_from, or_left, or_right}
use Rattle.std.proofs.lemmas.List.{get_or_default, get_or_past}
use Rattle.std.proofs.lemmas.List.FromFn.{get_or-range_with_len, length-range_with_len}
use Rattle.std.proofs.lemmas.List.Sums.{position_or_len_is, fails_before_first, passes_at_first, prefix_len-le-length}
use Rattle.simd_json_check.specs.Locations.{bad_string, first_index, is_control_inside, is_left_open}
use Rattle.simd_json_parts.specs.Bytes.{byte_at, indices, is_control, is_structural, is_whitespace}
use Rattle.simd_json_parts.specs.Positions.{is_even, backslashes_before, is_real_quote, real_quotes, is_inside, is_fresh, is_position}
use Rattle.simd_json_parts.proofs.Lists.Parity.{is_even-suc}

not-not : (t : Bool) → not (not t) ≡ t
not-not true = refl
not-not false = refl

-- ---- what is known at an index

pub record IsScan (b : List ℕ) (i : ℕ) (escaped inside : Bool) : Type 0 where
  pub escaped_is : escaped ≡ not (is_even (backslashes_before b i))
  pub inside_is : inside ≡ not (is_even (real_quotes b i))

pub scan-none : (b : List ℕ) → IsScan b 0 false false
unfolding backslashes_before real_quotes
scan-none b = record { escaped_is = refl; inside_is = refl }

module _ (b : List ℕ) (i : ℕ) (escaped inside : Bool) (s : IsScan b i escaped inside) where
  pub scan-quote : ((byte_at b i == 34) && not escaped) ≡ is_real_quote b i
  unfolding is_real_quote
  scan-quote = ap (λ t. (byte_at b i == 34) && t) (ap not s.escaped_is ∙ not-not (is_even (backslashes_before b i)))

  escapes : (t : Bool) → (t && not escaped) ≡ not (is_even (if t then suc (backslashes_before b i) else 0))
  escapes true = ap not s.escaped_is ∙ ap not (sym (is_even-suc (backslashes_before b i)))
  escapes false = refl

  insides : (t : Bool) → (if t then not inside else inside) ≡ not (is_even (if t then suc (real_quotes b i) else real_quotes b i))
  insides true = ap not s.inside_is ∙ ap not (sym (is_even-suc (real_quotes b i)))
  insides false = s.inside_is

  pub scan-after : (escaped' inside' : Bool) → escaped' ≡ ((byte_at b i == 92) && not escaped)
      → inside' ≡ (if (byte_at b i == 34) && not escaped then not inside else inside) → IsScan b (suc i) escaped' inside'
  unfolding backslashes_before real_quotes
  scan-after escaped' inside' e n = record {
    escaped_is = e ∙ escapes (byte_at b i == 92);
    inside_is = n ∙ ap (λ t. if t then not inside else inside) scan-quote ∙ insides (is_real_quote b i);
  }

-- what is inside after a byte was inside at it
pub scan-inside : (b : List ℕ) (i : ℕ) (escaped inside : Bool) → IsScan b (suc i) escaped inside → inside ≡ is_inside b i
unfolding is_inside
scan-inside b i escaped inside s = s.inside_is

-- what an index within the input holds
pub read : (b : List ℕ) (i : ℕ) → i < length b → get_or b i 0 ≡ byte_at b i
read b i l = get_or_default b i 0 32 l

-- The same of the byte that was read, at the next index.
module _ (b : List ℕ) (i : ℕ) (escaped inside : Bool) (l : i < length b) (s : IsScan b i escaped inside) where
  pub read-quote : ((get_or b i 0 == 34) && not escaped) ≡ is_real_quote b i
  read-quote = ap (λ c. (c == 34) && not escaped) (read b i l) ∙ scan-quote b i escaped inside s

  pub read-after : (escaped' inside' : Bool) → escaped' ≡ ((get_or b i 0 == 92) && not escaped)
      → inside' ≡ (if (get_or b i 0 == 34) && not escaped then not inside else inside) → IsScan b (i + 1) escaped' inside'
  read-after escaped' inside' e n =
      let next : suc i ≡ i + 1 = omega arith in
      subst (λ k. IsScan b k escaped' inside') next
      (scan-after b i escaped inside s escaped' inside'
      (e ∙ ap (λ c. (c == 92) && not escaped) (read b i l))
      (n ∙ ap (λ c. if (c == 34) && not escaped then not inside else inside) (read b i l)))

pub after-inside : (b : List ℕ) (i : ℕ) (escaped inside : Bool) → IsScan b (i + 1) escaped inside → inside ≡ is_inside b i
after-inside b i escaped inside s =
    let next : i + 1 ≡ suc i = omega arith in
    scan-inside b i escaped inside (subst (λ k. IsScan b k escaped inside) next s)

-- ---- control bytes

module _ (b : List ℕ) (i : ℕ) (escaped inside : Bool) (l : i < length b) (s : IsScan b (i + 1) escaped inside) where
  pub control-here : inside ≡ true → get_or b i 0 < 32 → is_control_inside b i ≡ true
  control-here is h =
      and_from (is_inside b i) (is_control (byte_at b i)) (sym (after-inside b i escaped inside s) ∙ is)
      (ap is_control (sym (read b i l)) ∙ lt-ltb (get_or b i 0) 32 h)

  pub control-outside : inside ≡ false → is_control_inside b i ≡ false
  control-outside is = and_left (is_inside b i) (is_control (byte_at b i)) (sym (after-inside b i escaped inside s) ∙ is)

  pub control-other : 32 ≤ get_or b i 0 → is_control_inside b i ≡ false
  control-other h = and_right (is_inside b i) (is_control (byte_at b i)) (ap is_control (sym (read b i l)) ∙ le-ltb (get_or b i 0) 32 h)

-- ---- tokens

-- a token begins with the byte c, and one ends with it: by whether it is a real quote, whether it is inside, and whether the byte
-- before ends one
abbrev pub begins : ℕ → Bool → Bool → Bool → Bool
begins c quoted inside fresh =
    (quoted && inside) || ((not inside && not quoted) && (is_structural c || (not (is_whitespace c) && fresh)))

abbrev pub ends : ℕ → Bool → Bool → Bool
ends c quoted inside = is_whitespace c || (is_structural c && not inside) || quoted

module _ (b : List ℕ) (i : ℕ) (escaped inside : Bool) (l : i < length b) (s : IsScan b i escaped inside)
    (quoted : Bool) (is : quoted ≡ ((get_or b i 0 == 34) && not escaped))
    (escaped' inside' : Bool) (after : IsScan b (i + 1) escaped' inside') where
  pub begins-at : (fresh : Bool) → fresh ≡ is_fresh b i → begins (get_or b i 0) quoted inside' fresh ≡ is_position b i
  unfolding is_position
  begins-at fresh f =
      ap (λ c. begins c quoted inside' fresh) (read b i l)
      ∙ ap (λ t. begins (byte_at b i) t inside' fresh) (is ∙ read-quote b i escaped inside l s)
      ∙ ap (λ t. begins (byte_at b i) (is_real_quote b i) t fresh) (after-inside b i escaped' inside' after)
      ∙ ap (begins (byte_at b i) (is_real_quote b i) (is_inside b i)) f

  pub ends-at : ends (get_or b i 0) quoted inside' ≡ is_fresh b (i + 1)
  ends-at =
      let next : suc i ≡ i + 1 = omega arith in
      ap (λ c. ends c quoted inside') (read b i l)
      ∙ ap (λ t. ends (byte_at b i) t inside') (is ∙ read-quote b i escaped inside l s)
      ∙ ap (ends (byte_at b i) (is_real_quote b i)) (after-inside b i escaped' inside' after)
      ∙ ap (is_fresh b) next

-- ---- first indexes

length-indices : (b : List ℕ) → length (indices b) ≡ length b
length-indices b = length-range_with_len 0 (length b)

index-at : (b : List ℕ) (k : ℕ) → k < length b → get_or (indices b) k 0 ≡ k
index-at b k l = get_or-range_with_len 0 (length b) k 0 l ∙ (let e : 0 + k ≡ k = omega arith in e)

module _ (test : ℕ → Bool) (b : List ℕ) where
  pub first_index-is : (i : ℕ) → i ≤ length b → ((k : ℕ) → k < i → test k ≡ false) → (i < length b → test i ≡ true) → first_index test b ≡ i
  first_index-is i l none here =
      position_or_len_is test (indices b) i 0 (omega (arith, length-indices b))
      (λ k h. ap test (index-at b k (omega arith)) ∙ none k h)
      (λ h. let m : i < length b = omega (arith, length-indices b) in ap test (index-at b i m) ∙ here m)

  pub first_index-le : first_index test b ≤ length b
  first_index-le = omega (arith, prefix_len-le-length (λ k. not (test k)) (indices b), length-indices b)

  pub first_index-none : (k : ℕ) → k < first_index test b → test k ≡ false
  first_index-none k l = ap test (sym (index-at b k (omega (arith, first_index-le)))) ∙ fails_before_first test (indices b) k 0 l

  pub first_index-at : first_index test b < length b → test (first_index test b) ≡ true
  first_index-at l =
      ap test (sym (index-at b (first_index test b) l))
      ∙ passes_at_first test (indices b) 0 (omega (arith, length-indices b))

-- The first index that passes one of two tests is the lesser of the first that pass each.
pub first_index-or : (p q : ℕ → Bool) (b : List ℕ) → min (first_index p b) (first_index q b) ≡ first_index (λ k. p k || q k) b
first_index-or p q b =
    elim (cases_lt (first_index p b) (first_index q b)) [
      | inl l ↦
          let e : min (first_index p b) (first_index q b) ≡ first_index p b = omega arith in
          e ∙ sym (first_index-is (λ k. p k || q k) b (first_index p b) (first_index-le p b)
          (λ k h. or_from (p k) (q k) (first_index-none p b k h) (first_index-none q b k (omega arith)))
          (λ h. or_left (p (first_index p b)) (q (first_index p b)) (first_index-at p b h)))
      | inr l ↦
          let e : min (first_index p b) (first_index q b) ≡ first_index q b = omega arith in
          e ∙ sym (first_index-is (λ k. p k || q k) b (first_index q b) (first_index-le q b)
          (λ k h. or_from (p k) (q k) (first_index-none p b k (omega arith)) (first_index-none q b k h))
          (λ h. or_right (p (first_index q b)) (q (first_index q b)) (first_index-at q b h)))
    ]

-- ---- the string that is left opening

quotes-more : (b : List ℕ) (k : ℕ) → real_quotes b k ≤ real_quotes b (suc k)
unfolding real_quotes
quotes-more b k = elim (is_real_quote b k) as (λ t. real_quotes b k ≤ (if t then suc (real_quotes b k) else real_quotes b k)) [
  | true ↦ omega arith
  | false ↦ omega arith
]

quotes-along : (b : List ℕ) (k n : ℕ) → real_quotes b k ≤ real_quotes b (k + n)
quotes-along b k zero = let e : k + 0 ≡ k = omega arith in rw e (omega arith)
quotes-along b k (suc n) =
    let e : k + suc n ≡ suc (k + n) = omega arith in
    rw e (omega (arith, quotes-along b k n, quotes-more b (k + n)))

quotes-below : (b : List ℕ) (k m : ℕ) → k ≤ m → real_quotes b k ≤ real_quotes b m
quotes-below b k m l = let e : k + (m - k) ≡ m = omega arith in subst (λ n. real_quotes b k ≤ real_quotes b n) e (quotes-along b k (m - k))

pub quotes-suc : (b : List ℕ) (k : ℕ) → is_real_quote b k ≡ true → real_quotes b (suc k) ≡ suc (real_quotes b k)
unfolding real_quotes
quotes-suc b k e = ap (λ t. if t then suc (real_quotes b k) else real_quotes b k) e

pub quotes-same : (b : List ℕ) (k : ℕ) → is_real_quote b k ≡ false → real_quotes b (suc k) ≡ real_quotes b k
unfolding real_quotes
quotes-same b k e = ap (λ t. if t then suc (real_quotes b k) else real_quotes b k) e

-- the opening quote of the string that is opening before index i, or the length where none is
pub record IsOpen (b : List ℕ) (i opening : ℕ) : Type 0 where
  pub closed : is_even (real_quotes b i) ≡ true → opening ≡ length b
  pub before : is_even (real_quotes b i) ≡ false → opening < i
  pub quote : is_even (real_quotes b i) ≡ false → is_real_quote b opening ≡ true
  pub last : is_even (real_quotes b i) ≡ false → real_quotes b (suc opening) ≡ real_quotes b i

pub open-none : (b : List ℕ) (opening : ℕ) → opening ≡ length b → IsOpen b 0 opening
unfolding real_quotes
open-none b opening e = record {
  closed = λ _. e;
  before = λ h. absurd (false≢true (sym h));
  quote = λ h. absurd (false≢true (sym h));
  last = λ h. absurd (false≢true (sym h));
}

-- past a byte that is no real quote
open-same : (b : List ℕ) (i opening : ℕ) → is_real_quote b i ≡ false → IsOpen b i opening → IsOpen b (suc i) opening
open-same b i opening other at =
    let same = quotes-same b i other in
    let even : is_even (real_quotes b i) ≡ is_even (real_quotes b (suc i)) = ap is_even (sym same) in
    record {
      closed = λ h. at.closed (even ∙ h);
      before = λ h. let l : opening < i = at.before (even ∙ h) in omega arith;
      quote = λ h. at.quote (even ∙ h);
      last = λ h. at.last (even ∙ h) ∙ sym same;
    }

-- past a real quote
open-quote : (b : List ℕ) (i opening : ℕ) (inside : Bool) → is_real_quote b i ≡ true → inside ≡ not (is_even (real_quotes b (suc i)))
    → opening ≡ (if inside then i else length b) → IsOpen b (suc i) opening
open-quote b i opening inside real is e = record {
  closed = λ h. e ∙ ap (λ t. if t then i else length b) (is ∙ ap not h);
  before = λ h. let at : opening ≡ i = here h in omega arith;
  quote = λ h. subst (λ k. is_real_quote b k ≡ true) (sym (here h)) real;
  last = λ h. ap (λ k. real_quotes b (suc k)) (here h);
}
  where
    here : is_even (real_quotes b (suc i)) ≡ false → opening ≡ i
    here h = e ∙ ap (λ t. if t then i else length b) (is ∙ ap not h)

-- Past a byte that was read.
module _ (b : List ℕ) (i : ℕ) (escaped inside : Bool) (l : i < length b) (s : IsScan b i escaped inside)
    (quoted : Bool) (is : quoted ≡ ((get_or b i 0 == 34) && not escaped)) where
  pub open-past : (opening : ℕ) → quoted ≡ false → IsOpen b i opening → IsOpen b (i + 1) opening
  open-past opening e at =
      let next : suc i ≡ i + 1 = omega arith in
      subst (λ k. IsOpen b k opening) next (open-same b i opening (sym (read-quote b i escaped inside l s) ∙ sym is ∙ e) at)

  pub open-at : (opening : ℕ) (escaped' inside' : Bool) → quoted ≡ true → IsScan b (i + 1) escaped' inside'
      → opening ≡ (if inside' then i else length b) → IsOpen b (i + 1) opening
  open-at opening escaped' inside' e after o =
      let next : suc i ≡ i + 1 = omega arith in
      subst (λ k. IsOpen b k opening) next
      (open-quote b i opening inside' (sym (read-quote b i escaped inside l s) ∙ sym is ∙ e)
      (subst (λ k. inside' ≡ not (is_even (real_quotes b k))) (sym next) after.inside_is) o)

and-false : (x y z : Bool) → z ≡ false → (x && y && z) ≡ false
and-false true true z e = e
and-false true false z e = refl
and-false false y z e = refl

and-middle : (x y z : Bool) → (z ≡ true → y ≡ false) → (x && y && z) ≡ false
and-middle x y true e = and-no x y (e refl)
  where
    and-no : (x y : Bool) → y ≡ false → (x && y && true) ≡ false
    and-no true true h = h
    and-no true false h = refl
    and-no false y h = refl
and-middle true true false e = refl
and-middle true false false e = refl
and-middle false y false e = refl

pub open-is : (b : List ℕ) (opening : ℕ) → IsOpen b (length b) opening → first_index (is_left_open b) b ≡ opening
unfolding is_inside
open-is b opening at =
    elim (cases_Bool (is_even (real_quotes b (length b)))) [
      | inl even ↦
          let e = at.closed even in
          first_index-is (is_left_open b) b opening (omega arith)
          (λ k l. and-middle (is_real_quote b k) (is_inside b k) (real_quotes b (suc k) == real_quotes b (length b))
          (λ same. ap not (ap is_even (eqb-true (real_quotes b (suc k)) (real_quotes b (length b)) same) ∙ even)))
          (λ l. absurd (omega arith))
      | inr odd ↦
          let l = at.before odd in
          let last = at.last odd in
          first_index-is (is_left_open b) b opening (omega arith)
          (λ k h. and-false (is_real_quote b k) (is_inside b k) (real_quotes b (suc k) == real_quotes b (length b))
          (ne_eqb (real_quotes b (suc k)) (real_quotes b (length b))
          (λ same. omega (arith, quotes-below b (suc k) opening h, quotes-suc b opening (at.quote odd)))))
          (λ _. all-true (at.quote odd) (ap not (ap is_even last ∙ odd))
          (eq-eqb (real_quotes b (suc opening)) (real_quotes b (length b)) last))
    ]
  where
    all-true : {x y z : Bool} → x ≡ true → y ≡ true → z ≡ true → (x && y && z) ≡ true
    all-true {x} {y} {z} p q r = ap (λ t. t && y && z) p ∙ ap (λ t. t && z) q ∙ r

-- ---- what is wrong with a string

-- a control byte at the place is inside, since a quote is none
pub bad-control : (b : List ℕ) → byte_at b (bad_string b) < 32 → is_control_inside b (bad_string b) ≡ true
unfolding bad_string is_real_quote
bad-control b l =
    elim (cases_lt (bad_string b) (length b)) [
      | inl h ↦
          elim (or_cases (is_control_inside b (bad_string b)) (is_left_open b (bad_string b))
          (first_index-at (λ k. is_control_inside b k || is_left_open b k) b h)) [
            | inl control ↦ control
            | inr opening ↦
                let quoted = and_parts (byte_at b (bad_string b) == 34) (is_even (backslashes_before b (bad_string b)))
                (and_parts (is_real_quote b (bad_string b)) (is_inside b (bad_string b))
                (and_parts (is_real_quote b (bad_string b) && is_inside b (bad_string b))
                (real_quotes b (suc (bad_string b)) == real_quotes b (length b)) opening).0).0 in
                let quote : byte_at b (bad_string b) ≡ 34 = eqb-true (byte_at b (bad_string b)) 34 quoted.0 in
                absurd (omega arith)
          ]
      | inr h ↦ let blank : byte_at b (bad_string b) ≡ 32 = get_or_past b (bad_string b) 32 h in absurd (omega arith)
    ]
