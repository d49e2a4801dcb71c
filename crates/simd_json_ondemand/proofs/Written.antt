-- Of a value that is read there are bytes: a container has its closing bracket.
use Rattle.std.proofs.Common.{◌≡◌, refl, sym, ◌∙◌, ap, subst, ℕ, ◌+◌, ◌-◌, ◌<◌, ◌≤◌, zero, suc, Bool, true, false, ◌||◌, List, ◌∷◌, length}
use Rattle.std.proofs.Common.{drop, get_or, arith, Option, Some, None, option_map, Result, Ok, Err, is_some, cond, slice_range}
use Rattle.std.specs.List.Sorted.{IsStrictlyIncreasing}
use Rattle.std.proofs.lemmas.Bool.{cond_both}
use Rattle.std.proofs.lemmas.List.{get_or-drop, drop_more}
use Rattle.simd_json_parts.proofs.Positions.Order.{IsStrictlyIncreasing-positions}
use Rattle.simd_json_parts.specs.Bytes.{byte_at, is_closing, is_opening}
use Rattle.simd_json_parts.specs.Document.{Document}
use Rattle.simd_json_parts.specs.Tokens.{Form, begin_array, begin_object, string_token, scalar, Token, form_at}
use Rattle.simd_json_parts.specs.TokensAlong.{tokens_along}
use Rattle.simd_json_parts.specs.declared.error.Error.{Error}
use Rattle.simd_json_ondemand.specs.Closing.{closed_at, first_bytes, span}
use Rattle.simd_json_ondemand.specs.Remaining.{value_at_first}
use Rattle.simd_json_ondemand.specs.Viewed.{first_read, read_along}
use Rattle.simd_json_ondemand.specs.Standing.{opens_array, opens_object, literal_end}
use Rattle.simd_json_check.specs.Scanned.{IsWholeScan}
use Rattle.simd_json_ondemand.specs.Docs.{doc, text, index_of, form, literal}
use Rattle.simd_json_ondemand.specs.Written.{last_place, enclosed, written}
use Rattle.simd_json_ondemand.specs.declared.value.Value.{Value}
use Rattle.simd_json_ondemand.proofs.Standing.{opens_array_byte, opens_object_byte}
use Rattle.simd_json_ondemand.proofs.Agreement.{Begins, begins-at}
use Rattle.simd_json_ondemand.proofs.Sequence.Reading.{spans}

span-some : (b : List ℕ) (i : ℕ) (is : List ℕ) → 0 < span b (i ∷ is)
span-some b i is = cond_both (is_opening (byte_at b i)) (suc (closed_at 1 (first_bytes b is))) 1 (λ n. 0 < n) (λ _. omega arith)
    (λ _. omega arith)

-- structural indexes rise
rising : (is : List ℕ) → IsStrictlyIncreasing is → (j n : ℕ) → j + n < length is → get_or is j 0 ≤ get_or is (j + n) 0
rising is rise j zero l = omega (arith, ap (λ m. get_or is m 0) (let same : j + 0 ≡ j = omega arith in same))
rising is rise j (suc n) l =
    let next : j + n + 1 ≡ j + suc n = omega arith in
    omega (arith, rising is rise j n (omega arith), rise (j + n) (omega arith), ap (λ m. get_or is m 0) next)

pub ordered : (b is : List ℕ) → IsWholeScan b is → (j k : ℕ) → j ≤ k → k < length is → get_or is j 0 ≤ get_or is k 0
ordered b is s j k o l =
    let there : j + (k - j) ≡ k = omega arith in
    omega (
      arith,
      rising is (subst IsStrictlyIncreasing (sym s.listed) (IsStrictlyIncreasing-positions b)) j (k - j) (omega arith),
      ap (λ m. get_or is m 0) there,
    )

module _ (b is : List ℕ) (k : ℕ) (l : k < length is) (d : Document) (h : read_along b (drop k is) ≡ Some d) where
  pub container-closed : is_opening (byte_at b (get_or is k 0)) ≡ true
      → is_closing (byte_at b (get_or is (k + span b (drop k is) - 1) 0)) ≡ true
  container-closed o = go (value_at_first b (tokens_along b (drop k is))) refl h
    where
      front : get_or (drop k is) 0 0 ≡ get_or is k 0
      front = get_or-drop k is 0 0 ∙ ap (λ n. get_or is n 0) (omega arith)

      some : 0 < span b (drop k is)
      some = subst (λ js. 0 < span b js) (sym (drop_more is k 0 l)) (span-some b (get_or is k 0) (drop (k + 1) is))

      go : (r : Result (Document × List Token) Error) → value_at_first b (tokens_along b (drop k is)) ≡ r → first_read r ≡ Some d
          → is_closing (byte_at b (get_or is (k + span b (drop k is) - 1) 0)) ≡ true
      go (Ok x) e f =
          let s = spans b (drop k is) x.0 x.1 e in
          let last = s.ended (ap (λ i. is_opening (byte_at b i)) front ∙ o) in
          let place : k + (span b (drop k is) - 1) ≡ k + span b (drop k is) - 1 = omega (arith, some) in
          ap (λ i. is_closing (byte_at b i)) (sym (get_or-drop k is (span b (drop k is) - 1) 0 ∙ ap (λ n. get_or is n 0) place)) ∙ last
      go (Err e) f g = cc

pub literal-read : (b : List ℕ) (i : ℕ) (d : Document) → is_opening (byte_at b i) ≡ false → Begins (form_at b i) d
    → is_some (literal_end b i (form_at b i)) ≡ true
literal-read b i d o h =
    go (form_at b i) (sym (opens_array_byte b i) ∙ (neither _ _ o).0) (sym (opens_object_byte b i) ∙ (neither _ _ o).1) h
  where
    neither : (s t : Bool) → (s || t) ≡ false → (s ≡ false) × (t ≡ false)
    neither true t e = cc
    neither false t e = (refl, e)

    go : (form : Form) → opens_array form ≡ false → opens_object form ≡ false → Begins form d → is_some (literal_end b i form) ≡ true
    go begin_array a e g = cc
    go begin_object a e g = cc
    go (string_token (Ok s)) a e g = refl
    go (scalar (Ok s)) a e g = refl
    go (string_token (Err f)) a e g = absurd g
    go (scalar (Err f)) a e g = absurd g
    go _ a e g = absurd g

-- ---- a value's bytes

some-of : {A B : Type 0} (f : A → B) (o : Option A) → is_some (option_map f o) ≡ is_some o
some-of f (Some x) = refl
some-of f None = refl

-- as a function returns them
pub returned : {A B : Type 0} (f : A → B) (o : Option A) (p : Option B) → option_map f o ≡ p → is_some p ≡ true → is_some o ≡ true
returned f o p e some = sym (some-of f o) ∙ ap is_some e ∙ some

module _ (v : Value) where
  pub written-container : is_opening (byte_at (text v.document) (index_of v)) ≡ true → written v ≡ enclosed v
  written-container o = ap (λ t. cond t (enclosed v) (literal v)) o

  pub written-literal : is_opening (byte_at (text v.document) (index_of v)) ≡ false → written v ≡ literal v
  written-literal o = ap (λ t. cond t (enclosed v) (literal v)) o

  module _ (d : Document) (h : doc v ≡ Some d) where
    pub enclosed-some : is_opening (byte_at (text v.document) (index_of v)) ≡ true → is_some (enclosed v) ≡ true
    enclosed-some o =
        let b : List ℕ = text v.document in
        ap (λ t. is_some (cond t (Some (slice_range b (index_of v) (suc (last_place v)))) None))
        (container-closed b v.document.indexes.now v.at v.inside d h o)

    pub literal-some : is_opening (byte_at (text v.document) (index_of v)) ≡ false → is_some (literal v) ≡ true
    literal-some o =
        let b : List ℕ = text v.document in
        some-of (slice_range b (index_of v)) (literal_end b (index_of v) (form v))
        ∙ literal-read b (index_of v) d o (begins-at b v.document.indexes.now v.at v.inside d h)
