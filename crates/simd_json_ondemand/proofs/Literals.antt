-- Where the string or scalar ends that stands at an index.
use Rattle.std.proofs.Common.{◌≡◌, refl, sym, ◌∙◌, ap, subst, ℕ, suc, ◌+◌, ◌≤◌, List, [], ◌∷◌, length, take, drop, false, true, ◌&&◌, ◌==◌}
use Rattle.std.proofs.Common.{nat_eq, arith, Option, Some, None, Result, Ok, Err, IfOk, nat_lt, codes, length-drop}
use Rattle.std.specs.List.{starts_with}
use Rattle.std.proofs.lemmas.Bool.{cond_both, and_parts, false≢true}
use Rattle.simd_json_parts.specs.Bytes.{byte_at, is_terminator, quote}
use Rattle.simd_json_parts.specs.AtomAt.{atom_at}
use Rattle.simd_json_parts.specs.Derivatives.{matches, longest_prefix}
use Rattle.simd_json_parts.specs.Document.{Document}
use Rattle.simd_json_parts.specs.Integers.{max_magnitude}
use Rattle.simd_json_parts.specs.NumberAt.{number_at, integer_or, first_excess}
use Rattle.simd_json_parts.specs.Numbers.{number_literal, integer_literal, has_minus, magnitude}
use Rattle.simd_json_parts.specs.StringAt.{closing_quote}
use Rattle.simd_json_parts.specs.Tokens.{scalar}
use Rattle.simd_json_parts.specs.declared.error.Error.{Error}
use Rattle.simd_json_parts.proofs.Patterns.Sets.{longest_prefix-le}
use Rattle.simd_json_scalars.proofs.Strings.Standalone.{closing_quote-further}
use Rattle.simd_json_stages.proofs.Tokens.ScalarLaws.{form_at-number, form_at-null, form_at-true, form_at-false}
use Rattle.simd_json_stages.proofs.Tokens.TokenForms.{quotes}
use Rattle.simd_json_ondemand.specs.Numerals.{IsNumberLen, IsLiteralLen}
use Rattle.simd_json_check.specs.Scalars.{begins_number}
use Rattle.simd_json_ondemand.specs.Standing.{literal_end}
use Rattle.simd_json_ondemand.proofs.Quoted.{IsQuoted}
use Rattle.simd_json_check.proofs.Words.{spells, first, spelt}
use Rattle.simd_json_ondemand.proofs.Standing.{by_form, by_atom, other-byte}

module _ (b : List ℕ) (i : ℕ) where
  -- ---- a string

  pub string-ends : (bs : List ℕ) → bs ≡ drop i b → i ≤ length b → byte_at b i ≡ quote → IsQuoted bs → (end : ℕ)
      → end ≡ closing_quote bs 0 → IsLiteralLen b i (Some (end + 1))
  string-ends bs is l e q end at =
      let closing : closing_quote b i ≡ i + end =
      closing_quote-further b i e ∙ ap (λ us. i + closing_quote us 0) (sym is) ∙ ap (λ n. i + n) (sym at) in
      let next : suc (closing_quote b i) ≡ i + (end + 1) = omega (arith, closing) in (
        ap (literal_end b i) (quotes b i e) ∙ ap Some next,
        omega (arith, at, q.closing, ap length is, length-drop i b, l),
      )

  -- ---- a number

  number-inside : i ≤ length b → IfOk (number_at b i) (λ r. r.1 ≤ length b)
  unfolding number_at
  number-inside l =
      cond_both (matches number_literal digits && is_terminator (byte_at b end)) _ _ Within
      (λ _. cond_both (matches integer_literal digits) _ _ Within (λ _. range (first_excess digits)) (λ _. within)) (λ _. tt)
    where
      Within : Result (Document × ℕ) Error → Type 0
      Within r = IfOk r (λ p. p.1 ≤ length b)

      digits : List ℕ
      digits = take (longest_prefix number_literal (drop i b)) (drop i b)

      end : ℕ
      end = i + longest_prefix number_literal (drop i b)

      within : end ≤ length b
      within = omega (arith, longest_prefix-le number_literal (drop i b), length-drop i b, l)

      range : (o : Option ℕ) → Within (integer_or b i digits end o)
      range (Some k) = tt
      range None = cond_both (nat_lt (max_magnitude (has_minus digits)) (magnitude digits)) _ _ Within (λ _. tt) (λ _. within)

  pub number-ends : (o : Option ℕ) → i ≤ length b → begins_number (byte_at b i) ≡ true → IsNumberLen b i o → IsLiteralLen b i o
  number-ends (Some len) l is (d, h) = (
    ap (literal_end b i) (form_at-number b i (byte_at b i) refl is ∙ ap scalar h),
    subst (λ r. IfOk r (λ p. p.1 ≤ length b)) h (number-inside l),
  )
  number-ends None l is (e, h) = ap (literal_end b i) (form_at-number b i (byte_at b i) refl is ∙ ap scalar h)

  -- ---- a word

  fits : (letters bs : List ℕ) → starts_with nat_eq bs letters ≡ true → length letters ≤ length bs
  fits [] bs h = omega arith
  fits (c ∷ letters) [] h = cc
  fits (c ∷ letters) (x ∷ bs) h = let rest : length letters ≤ length bs = fits letters bs (and_parts _ _ h).1 in omega arith

  word-fits : (letters : List ℕ) → i ≤ length b → spells b i letters ≡ true → i + length letters ≤ length b
  word-fits letters l h =
      let here : starts_with nat_eq (drop i b) letters ≡ true = (and_parts _ _ h).0 in
      omega (arith, fits letters (drop i b) here, length-drop i b, l)

  pub null-ends : i ≤ length b → spells b i (codes "null") ≡ true → IsLiteralLen b i (Some 4)
  null-ends l h = (
    ap (literal_end b i) (form_at-null b (drop i b) i refl (first b i 110 (codes "ull") h) (spelt b i (codes "null") h)),
    word-fits (codes "null") l h,
  )

  pub true-ends : i ≤ length b → spells b i (codes "true") ≡ true → IsLiteralLen b i (Some 4)
  true-ends l h = (
    ap (literal_end b i) (form_at-true b (drop i b) i refl (first b i 116 (codes "rue") h) (spelt b i (codes "true") h)),
    word-fits (codes "true") l h,
  )

  pub false-ends : i ≤ length b → spells b i (codes "false") ≡ true → IsLiteralLen b i (Some 5)
  false-ends l h = (
    ap (literal_end b i) (form_at-false b (drop i b) i refl (first b i 102 (codes "alse") h) (spelt b i (codes "false") h)),
    word-fits (codes "false") l h,
  )

  -- ---- none of these

  pub none-ends : (byte_at b i == 34) ≡ false → begins_number (byte_at b i) ≡ false → spells b i (codes "null") ≡ false
      → spells b i (codes "true") ≡ false → spells b i (codes "false") ≡ false → IsLiteralLen b i None
  none-ends s d n t f =
      by_form b i (λ form. literal_end b i form ≡ None) (λ _. refl) refl (λ _. refl) refl refl refl (other-byte b i 34 refl s)
      (nowhere (atom_at b i) (by_atom b i (λ _. ⊥) (λ e. absurd (false≢true (sym t ∙ e))) (λ e. absurd (false≢true (sym f ∙ e)))
      (λ e. absurd (false≢true (sym n ∙ e)))))
      (λ e. absurd (false≢true (sym d ∙ e))) refl
    where
      nowhere : (r : Result (Document × ℕ) Error) → IfOk r (λ _. ⊥) → literal_end b i (scalar r) ≡ None
      nowhere (Ok r) h = absurd h
      nowhere (Err e) h = refl
