-- Which scalar or string stands at an index, by cases on the first byte.
use Rattle.std.proofs.Common.{◌≡◌, refl, sym, ◌∙◌, ap, ℕ, ◌+◌, List, length, take, drop, Bool, true, false, ◌||◌, ◌&&◌, ◌==◌, nat_le, inl}
use Rattle.std.proofs.Common.{inr, arith, take-append-drop, Option, Some, None, Result, Ok, Err, IfOk, IfSome, nat_lt, codes, option_map}
use Rattle.std.proofs.Common.{option_and_then, is_some, IsUtf8, ◌≤◌, get_or-drop, length-drop}
use Rattle.std.proofs.lemmas.Bool.{cases_Bool, cond_both, cond-true, eqb-true, false≢true}
use Rattle.simd_json_parts.specs.AtomAt.{atom_at, atom_or}
use Rattle.simd_json_parts.specs.Bytes.{byte_at, is_terminator}
use Rattle.simd_json_parts.specs.Derivatives.{matches, longest_prefix}
use Rattle.simd_json_parts.specs.Document.{Document, null, boolean, integer, decimal, string}
use Rattle.simd_json_parts.specs.Integers.{max_magnitude}
use Rattle.simd_json_parts.specs.NumberAt.{number_at, integer_or, first_excess}
use Rattle.simd_json_parts.specs.Numbers.{number_literal, integer_literal, has_minus, magnitude}
use Rattle.simd_json_parts.specs.StringAt.{string_at}
use Rattle.simd_json_parts.specs.Tokens.{Form, begin_array, end_array, begin_object, end_object, name_separator, value_separator}
use Rattle.simd_json_parts.specs.Tokens.{string_token, scalar, stray, form_at}
use Rattle.simd_json_parts.specs.Views.{value_type, as_null, as_bool, as_integer, as_decimal, as_str}
use Rattle.simd_json_parts.specs.declared.error.Error.{Error}
use Rattle.simd_json_parts.specs.declared.error.ErrorType.{ErrorType}
use Rattle.simd_json_parts.specs.declared.error.ErrorType.TheVariants.{ExpectedTrue, ExpectedFalse, ExpectedNull}
use Rattle.simd_json_stages.proofs.Tokens.TokenForms as forms
use Rattle.simd_json_stages.proofs.Machine.ScalarPut.{decimal-here}
use Rattle.simd_json_scalars.proofs.Numbers.Literals.{number_at-literal, integer-number}
use Rattle.simd_json_scalars.specs.NumeralRead.{IsIntegerLiteral}
use Rattle.simd_json_parts.proofs.Patterns.Sets.{Matches-matches}
use Rattle.simd_json_check.specs.Scalars.{scalar_of, begins_number}
use Rattle.simd_json_check.proofs.Words.{spells}
use Rattle.simd_json_ondemand.specs.Standing.{kind_of, opens_array, opens_object}

module _ (b : List ℕ) (i : ℕ) where
  -- what holds of each form holds of the one that stands there
  pub by_form : (P : Form → Type 0) → (byte_at b i ≡ 91 → P begin_array) → P end_array → (byte_at b i ≡ 123 → P begin_object)
      → P end_object → P name_separator → P value_separator → (byte_at b i ≡ 34 → P (string_token (string_at b i)))
      → P (scalar (atom_at b i)) → (begins_number (byte_at b i) ≡ true → P (scalar (number_at b i))) → P stray → P (form_at b i)
  unfolding form_at
  by_form P ba ea bo eo ns vs st at nu other =
      cond_both (x == 91) _ _ P (λ e. ba (eqb-true x 91 e)) (λ _.
      cond_both (x == 93) _ _ P (λ _. ea) (λ _.
      cond_both (x == 123) _ _ P (λ e. bo (eqb-true x 123 e)) (λ _.
      cond_both (x == 125) _ _ P (λ _. eo) (λ _.
      cond_both (x == 58) _ _ P (λ _. ns) (λ _.
      cond_both (x == 44) _ _ P (λ _. vs) (λ _.
      cond_both (x == 34) _ _ P (λ e. st (eqb-true x 34 e)) (λ _.
      cond_both ((x == 116) || (x == 102) || (x == 110)) _ _ P (λ _. at) (λ _.
      cond_both ((x == 45) || (nat_le 48 x && nat_le x 57)) _ _ P (λ e. nu e) (λ _. other)))))))))
    where
      x : ℕ
      x = byte_at b i

  -- ---- a scalar

  module _ (P : Document → Type 0) where
    abbrev pub Read : Result (Document × ℕ) Error → Type 0
    Read r = IfOk r (λ p. P p.0)

    letters : (bs : List ℕ) (d : Document) (kind : ErrorType) → (spells b i bs ≡ true → P d) → Read (atom_or bs d kind b i)
    letters bs d kind h = cond_both (spells b i bs) _ _ Read (λ e. h e) (λ _. tt)

    pub by_atom : (spells b i (codes "true") ≡ true → P (boolean true)) → (spells b i (codes "false") ≡ true → P (boolean false))
        → (spells b i (codes "null") ≡ true → P null) → Read (atom_at b i)
    unfolding atom_at
    by_atom t f n =
        cond_both (byte_at b i == 116) _ _ Read (λ _. letters (codes "true") (boolean true) ExpectedTrue t)
        (λ _. cond_both (byte_at b i == 102) _ _ Read (λ _. letters (codes "false") (boolean false) ExpectedFalse f)
        (λ _. letters (codes "null") null ExpectedNull n))

    pub by_number : ((minus : Bool) (n : ℕ) → P (integer minus n)) → ((literal : List ℕ) → P (decimal literal)) → Read (number_at b i)
    unfolding number_at
    by_number whole fraction =
        cond_both (matches number_literal literal && is_terminator (byte_at b end)) _ _ Read
        (λ _. cond_both (matches integer_literal literal) _ _ Read (λ _. range (first_excess literal)) (λ _. fraction literal))
        (λ _. tt)
      where
        literal : List ℕ
        literal = take (longest_prefix number_literal (drop i b)) (drop i b)

        end : ℕ
        end = i + longest_prefix number_literal (drop i b)

        range : (o : Option ℕ) → Read (integer_or b i literal end o)
        range (Some k) = tt
        range None = cond_both (nat_lt (max_magnitude (has_minus literal)) (magnitude literal)) _ _ Read (λ _. tt)
            (λ _. whole (has_minus literal) (magnitude literal))

    string_stands : (r : Result (List ℕ × ℕ) Error) → ((t : List ℕ) → P (string t)) → IfSome (scalar_of (string_token r)) P
    string_stands (Ok r) h = h r.0
    string_stands (Err e) h = tt

    scalar_stands : (r : Result (Document × ℕ) Error) → Read r → IfSome (scalar_of (scalar r)) P
    scalar_stands (Ok r) h = h
    scalar_stands (Err e) h = tt

    -- What holds of each string, of each word that is spelled out, and of each number where one begins, holds of what
    -- stands there.
    pub by_standing : (byte_at b i ≡ 34 → (t : List ℕ) → P (string t)) → (spells b i (codes "true") ≡ true → P (boolean true))
        → (spells b i (codes "false") ≡ true → P (boolean false)) → (spells b i (codes "null") ≡ true → P null)
        → (begins_number (byte_at b i) ≡ true → (minus : Bool) (n : ℕ) → P (integer minus n))
        → (begins_number (byte_at b i) ≡ true → (literal : List ℕ) → P (decimal literal))
        → IfSome (scalar_of (form_at b i)) P
    by_standing s t f n whole fraction =
        by_form (λ form. IfSome (scalar_of form) P) (λ _. tt) tt (λ _. tt) tt tt tt (λ e. string_stands (string_at b i) (s e))
        (scalar_stands (atom_at b i) (by_atom t f n)) (λ e. scalar_stands (number_at b i) (by_number (whole e) (fraction e))) tt

  -- ---- brackets

  pub other-byte : {A : Type 0} (c : ℕ) → (c == c) ≡ true → (byte_at b i == c) ≡ false → byte_at b i ≡ c → A
  other-byte c same e is = absurd (false≢true (sym e ∙ ap (λ y. y == c) is ∙ same))

  pub opens_array_byte : (byte_at b i == 91) ≡ opens_array (form_at b i)
  opens_array_byte =
      elim (cases_Bool (byte_at b i == 91)) [
        | inl e ↦ e ∙ sym (ap opens_array (forms.opens b i (eqb-true (byte_at b i) 91 e)))
        | inr e ↦ e ∙ sym (by_form (λ form. opens_array form ≡ false) (other-byte 91 refl e) refl (λ _. refl) refl refl refl (λ _. refl)
            refl (λ _. refl) refl)
      ]

  pub opens_object_byte : (byte_at b i == 123) ≡ opens_object (form_at b i)
  opens_object_byte =
      elim (cases_Bool (byte_at b i == 123)) [
        | inl e ↦ e ∙ sym (ap opens_object (forms.opens_object b i (eqb-true (byte_at b i) 123 e)))
        | inr e ↦ e ∙ sym (by_form (λ form. opens_object form ≡ false) (λ _. refl) refl (other-byte 123 refl e) refl refl refl (λ _. refl)
            refl (λ _. refl) refl)
      ]

  -- a value that is no array, object or string has the kind of the scalar that stands there
  pub kind-scalar : (byte_at b i == 91) ≡ false → (byte_at b i == 123) ≡ false → (byte_at b i == 34) ≡ false
      → kind_of (form_at b i) ≡ option_map value_type (scalar_of (form_at b i))
  kind-scalar a o s =
      by_form (λ form. kind_of form ≡ option_map value_type (scalar_of form)) (other-byte 91 refl a) refl
      (other-byte 123 refl o) refl refl refl
      (other-byte 34 refl s) (of_scalar (atom_at b i)) (λ _. of_scalar (number_at b i)) refl
    where
      of_scalar : (r : Result (Document × ℕ) Error) → kind_of (scalar r) ≡ option_map value_type (scalar_of (scalar r))
      of_scalar (Ok r) = refl
      of_scalar (Err e) = refl

-- what is none of a scalar that stands is none
pub none-standing : {A : Type 0} (f : Document → Option A) (o : Option Document) → IfSome o (λ d. f d ≡ None) → option_and_then f o ≡ None
none-standing f (Some d) h = h
none-standing f None h = refl

-- ---- what stands is none of these

module _ (b : List ℕ) (i : ℕ) where
  pub no-null : spells b i (codes "null") ≡ false → option_and_then as_null (scalar_of (form_at b i)) ≡ None
  no-null none = none-standing as_null _ (by_standing b i (λ d. as_null d ≡ None) (λ _ _. refl) (λ _. refl) (λ _. refl)
      (λ e. absurd (false≢true (sym none ∙ e))) (λ _ _ _. refl) (λ _ _. refl))

  pub no-bool : spells b i (codes "true") ≡ false → spells b i (codes "false") ≡ false
      → option_and_then as_bool (scalar_of (form_at b i)) ≡ None
  no-bool none nor = none-standing as_bool _ (by_standing b i (λ d. as_bool d ≡ None) (λ _ _. refl)
      (λ e. absurd (false≢true (sym none ∙ e)))
      (λ e. absurd (false≢true (sym nor ∙ e))) (λ _. refl) (λ _ _ _. refl) (λ _ _. refl))

  pub no-string : (byte_at b i == 34) ≡ false → option_and_then as_str (scalar_of (form_at b i)) ≡ None
  no-string none = none-standing as_str _ (by_standing b i (λ d. as_str d ≡ None) (λ e _. other-byte b i 34 refl none e) (λ _. refl)
      (λ _. refl) (λ _. refl) (λ _ _ _. refl) (λ _ _. refl))

  pub no-integer : begins_number (byte_at b i) ≡ false → option_and_then as_integer (scalar_of (form_at b i)) ≡ None
  no-integer none = none-standing as_integer _ (by_standing b i (λ d. as_integer d ≡ None) (λ _ _. refl) (λ _. refl) (λ _. refl)
      (λ _. refl) (λ e _ _. absurd (false≢true (sym none ∙ e))) (λ _ _. refl))

  pub no-decimal : begins_number (byte_at b i) ≡ false → option_and_then as_decimal (scalar_of (form_at b i)) ≡ None
  no-decimal none = none-standing as_decimal _ (by_standing b i (λ d. as_decimal d ≡ None) (λ _ _. refl) (λ _. refl) (λ _. refl)
      (λ _. refl) (λ _ _ _. refl) (λ e _. absurd (false≢true (sym none ∙ e))))

  -- where none of these stands, and no string, nothing does
  pub no-kind : (byte_at b i == 34) ≡ false → option_and_then as_null (scalar_of (form_at b i)) ≡ None
      → option_and_then as_bool (scalar_of (form_at b i)) ≡ None → option_and_then as_decimal (scalar_of (form_at b i)) ≡ None
      → option_and_then as_integer (scalar_of (form_at b i)) ≡ None → option_map value_type (scalar_of (form_at b i)) ≡ None
  no-kind s =
      nothing (scalar_of (form_at b i)) (by_standing b i Single (λ e _. other-byte b i 34 refl s e) (λ _ _ t _ _. cc) (λ _ _ t _ _. cc)
      (λ _ n _ _ _. cc) (λ _ _ _ _ _ _ w. cc) (λ _ _ _ _ f _. cc))
    where
      Single : Document → Type 0
      Single d = as_null d ≡ None → as_bool d ≡ None → as_decimal d ≡ None → as_integer d ≡ None → ⊥

      nothing : (o : Option Document) → IfSome o Single → option_and_then as_null o ≡ None → option_and_then as_bool o ≡ None
          → option_and_then as_decimal o ≡ None → option_and_then as_integer o ≡ None → option_map value_type o ≡ None
      nothing (Some d) h n t f w = absurd (h n t f w)
      nothing None h n t f w = refl

-- ---- numbers

module _ (b : List ℕ) (i : ℕ) where
  -- an integer's literal of any length spells no decimal
  pub long-no_decimal : (len : ℕ) → form_at b i ≡ scalar (number_at b i) → IsIntegerLiteral (drop i b) len
      → option_and_then as_decimal (scalar_of (form_at b i)) ≡ None
  long-no_decimal len is (l, m, t) =
      ap (λ form. option_and_then as_decimal (scalar_of form)) (is ∙ ap scalar number) ∙ none (first_excess xs)
    where
      xs : List ℕ
      xs = take len (drop i b)

      rest : List ℕ
      rest = drop len (drop i b)

      number : number_at b i ≡ integer_or b i xs (i + length xs) (first_excess xs)
      number =
          let same : len + 0 ≡ len = omega arith in
          let ends : is_terminator (byte_at rest 0) ≡ true =
          ap is_terminator (get_or-drop len (drop i b) 0 32 ∙ ap (byte_at (drop i b)) same) ∙ t in
          number_at-literal b i xs rest (sym (take-append-drop len (drop i b))) ends (integer-number xs m)
          ∙ cond-true _ _ _ (Matches-matches integer_literal xs m)

      none : (o : Option ℕ) → option_and_then as_decimal (scalar_of (scalar (integer_or b i xs (i + length xs) o))) ≡ None
      none (Some k) = refl
      none None = cond_both (nat_lt (max_magnitude (has_minus xs)) (magnitude xs)) _ _
          (λ r. option_and_then as_decimal (scalar_of (scalar r)) ≡ None) (λ _. refl) (λ _. refl)

  pub decimal-within : (len : ℕ) → i ≤ length b → form_at b i ≡ scalar (number_at b i)
      → number_at b i ≡ Ok (decimal (take len (drop i b)), i + len) → IsUtf8 (take len (drop i b)) × (len ≤ length (drop i b))
  decimal-within len l is h =
      let here = decimal-here b i (take len (drop i b)) (i + len) l (is ∙ ap scalar h) in
      (here.0, omega (arith, here.1, length-drop i b))

pub none-of : {A : Type 0} (o : Option A) → is_some o ≡ false → o ≡ None
none-of (Some x) h = cc
none-of None h = refl
