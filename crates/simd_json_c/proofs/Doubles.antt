-- A number, to the end of the bytes, is the text of a float.
use Rattle.std.proofs.Common.{◌≡◌, ◌∙◌, refl, ap, sym, subst, arith, ℕ, ◌+◌, ◌&&◌, List, length, take, Option, Some, None, true, nat_lt}
use Rattle.std.specs.Prelude.{Result, Ok, Err, IfOk}
use Rattle.std.specs.Float.Parse.{is_float_text}
use Rattle.std.proofs.lemmas.Bool.{cond_both, and_parts}
use Rattle.std.proofs.lemmas.List.{take_all}
use Rattle.simd_json_parts.proofs.Patterns.Sets.{matches-Matches}
use Rattle.simd_json_parts.specs.Bytes.{byte_at, is_terminator}
use Rattle.simd_json_parts.specs.Derivatives.{matches, longest_prefix}
use Rattle.simd_json_parts.specs.Document.{Document}
use Rattle.simd_json_parts.specs.Integers.{max_magnitude}
use Rattle.simd_json_parts.specs.NumberAt.{number_at, integer_or, first_excess}
use Rattle.simd_json_parts.specs.Numbers.{integer_literal, has_minus, magnitude, number_literal}
use Rattle.simd_json_parts.specs.declared.error.Error.{Error}
use Rattle.simd_json_ondemand.proofs.Floats.{is-float}
use Rattle.simd_json_scalars.specs.NumberRead.{IsNumberAt}
use Rattle.simd_json_scalars.specs.declared.numberparse.Number.{Number}
use Rattle.simd_json_scalars.specs.declared.numberparse.Number.TheVariants.{Integer, Decimal, Invalid}
use Rattle.simd_json_c.specs.Doubles.{IsNumber}

module _ (b : List ℕ) where
  abbrev IsRead : Result (Document × ℕ) Error → Type 0
  IsRead r = IfOk r (λ p. matches number_literal (take p.1 b) ≡ true)

  read-literal : IsRead (number_at b 0)
  unfolding number_at
  read-literal =
      cond_both (matches number_literal xs && is_terminator (byte_at b (0 + n))) _ _ IsRead
      (λ h. cond_both (matches integer_literal xs) _ _ IsRead (λ _. range (first_excess xs) (right h)) (λ _. right h)) (λ _. tt)
    where
      n : ℕ
      n = longest_prefix number_literal b

      xs : List ℕ
      xs = take n b

      right : (matches number_literal xs && is_terminator (byte_at b (0 + n))) ≡ true
          → matches number_literal (take (0 + n) b) ≡ true
      right h = let same : 0 + n ≡ n = omega arith in ap (λ k. matches number_literal (take k b)) same ∙ (and_parts _ _ h).0

      range : (o : Option ℕ) → matches number_literal (take (0 + n) b) ≡ true → IsRead (integer_or b 0 xs (0 + n) o)
      range (Some k) h = tt
      range None h = cond_both (nat_lt (max_magnitude (has_minus xs)) (magnitude xs)) _ _ IsRead (λ _. tt) (λ _. h)

  -- where the number ends, or past the bytes
  abbrev end_of : Result (Document × ℕ) Error → ℕ
  end_of (Ok p) = p.1
  end_of (Err e) = length b + 1

  abbrev pub len_of : Number → ℕ
  len_of (Integer node len) = len
  len_of (Decimal len) = len
  len_of (Invalid offset) = length b + 1

  len-read : (r : Number) → IsNumberAt b 0 r → end_of (number_at b 0) ≡ len_of r
  len-read (Integer node len) (minus, n, is, same) = ap end_of is ∙ omega arith
  len-read (Decimal len) is = ap end_of is ∙ omega arith
  len-read (Invalid offset) is = ap end_of is

  found : (r : Result (Document × ℕ) Error) → number_at b 0 ≡ r → end_of r ≡ length b → IsNumber b
  found (Ok p) is end = (p.0, is ∙ ap (λ k. Ok (p.0, k)) end)
  found (Err e) is end = absurd (omega (arith, end))

  pub is-number : (r : Number) → IsNumberAt b 0 r → len_of r ≡ length b → IsNumber b
  is-number r read end = found (number_at b 0) refl (len-read r read ∙ end)

  pub is-whole : (r : Number) → IsNumberAt b 0 r → IsNumber b → len_of r ≡ length b
  is-whole r read (d, is) = sym (len-read r read) ∙ ap end_of is

pub number-float : (b : List ℕ) → IsNumber b → is_float_text b ≡ true
number-float b (d, is) =
    is-float b (matches-Matches number_literal b
    (ap (matches number_literal) (sym (take_all (length b) b (omega arith))) ∙ subst (IsRead b) is (read-literal b)))
