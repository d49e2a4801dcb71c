-- The last byte before an index that is no whitespace, from one index to the next.
use Rattle.std.proofs.Common.{◌≡◌, ◌∙◌, ap, sym, ℕ, zero, suc, ◌+◌, ◌-◌, inl, inr, List, length, true, false, Some, None, min, arith, refl}
use Rattle.std.proofs.lemmas.Bool.{cases_lt, cond-true, cond-false}
use Rattle.std.proofs.lemmas.List.{get_or_past}
use Rattle.simd_json_check.specs.Reasons.{byte_before}
use Rattle.simd_json_parts.specs.Bytes.{is_whitespace, byte_at, space}

pub before-zero : (b : List ℕ) → byte_before b 0 ≡ None
unfolding byte_before
before-zero b = refl

pub before-white : (b : List ℕ) (i : ℕ) → is_whitespace (byte_at b i) ≡ true → byte_before b (suc i) ≡ byte_before b i
unfolding byte_before
before-white b i e = cond-true (is_whitespace (byte_at b i)) (byte_before b i) (Some (byte_at b i)) e

pub before-byte : (b : List ℕ) (i : ℕ) → is_whitespace (byte_at b i) ≡ false → byte_before b (suc i) ≡ Some (byte_at b i)
unfolding byte_before
before-byte b i e = cond-false (is_whitespace (byte_at b i)) (byte_before b i) (Some (byte_at b i)) e

-- Past the end every byte reads as a space.
before-past : (b : List ℕ) (n : ℕ) → byte_before b (length b + n) ≡ byte_before b (length b)
before-past b zero = let e : length b + 0 ≡ length b = omega arith in ap (byte_before b) e
before-past b (suc n) =
    let e : length b + suc n ≡ suc (length b + n) = omega arith in
    ap (byte_before b) e
    ∙ before-white b (length b + n) (ap is_whitespace (get_or_past b (length b + n) space (omega arith)))
    ∙ before-past b n

pub before-min : (b : List ℕ) (i : ℕ) → byte_before b (min i (length b)) ≡ byte_before b i
before-min b i =
    elim (cases_lt i (length b)) [
      | inl l ↦ let e : min i (length b) ≡ i = omega arith in ap (byte_before b) e
      | inr l ↦
          let e : min i (length b) ≡ length b = omega arith in
          let f : length b + (i - length b) ≡ i = omega arith in
          ap (byte_before b) e ∙ sym (before-past b (i - length b)) ∙ ap (byte_before b) f
    ]
