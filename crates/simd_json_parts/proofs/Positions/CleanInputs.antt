-- What holds of an input that has no fault of the whole.
use Rattle.std.proofs.Common.{◌≡◌, refl, ◌∙◌, ap, ℕ, ◌<◌, ◌≤◌, List, length, get_or, Bool, true, false, not, cond, ◌&&◌, nat_lt}
use Rattle.std.proofs.Common.{IsUtf8, arith}
use Rattle.std.specs.Prelude.{Option, Some, None}
use Rattle.std.specs.Str.{is_utf8}
use Rattle.std.proofs.lemmas.Bool.{and_from, or_parts, ltb-false, not-false}
use Rattle.std.proofs.lemmas.List.Folds.{list_any_at}
use Rattle.std.proofs.lemmas.List.FromFn.{get_or-range_with_len, length-range_with_len}
use Rattle.std.proofs.lemmas.Str.{IsUtf8-from_is_utf8}
use Rattle.simd_json_parts.specs.Bytes.{byte_at, indices, is_control}
use Rattle.simd_json_parts.specs.InputFaults.{input_fault, has_bad_string, scan_fault}
use Rattle.simd_json_parts.specs.Limits.{max_length}
use Rattle.simd_json_parts.specs.Positions.{is_even, real_quotes, is_inside, has_control_inside}
use Rattle.simd_json_parts.specs.Faults.{whole_fault}
use Rattle.simd_json_parts.specs.declared.error.Error.{Error}
use Rattle.simd_json_parts.specs.declared.error.ErrorType.TheVariants.{InvalidUtf8}

-- an input without a fault of the whole
pub record IsClean (b : List ℕ) : Type 0 where
  pub size : length b ≤ max_length
  pub utf8 : IsUtf8 b
  pub even : is_even (real_quotes b (length b)) ≡ true
  pub plain : has_control_inside b ≡ false

-- Where no fault is reported, the first cause does not apply, and the next is asked.
not_asked : (t : Bool) (e : Error) (o : Option Error) → cond t (Some e) o ≡ None → (t ≡ false) × (o ≡ None)
not_asked true e o h = cc
not_asked false e o h = (refl, h)

-- An input of which no fault is reported is such an input.
pub IsClean-input : (b : List ℕ) → input_fault b ≡ None → IsClean b
unfolding input_fault
IsClean-input b none =
    let size : (nat_lt max_length (length b) ≡ false)
    × (cond (not (is_utf8 b)) (Some (whole_fault InvalidUtf8)) (scan_fault b) ≡ None) =
    not_asked _ _ _ none in
    let utf8 : (not (is_utf8 b) ≡ false) × (scan_fault b ≡ None) = not_asked _ _ _ size.1 in
    let strings : (has_bad_string b ≡ false) × (_ ≡ None) = not_asked _ _ _ utf8.1 in
    let parts : (not (is_even (real_quotes b (length b))) ≡ false) × (has_control_inside b ≡ false) = or_parts _ _ strings.0 in
    record { size = ltb-false _ _ size.0; utf8 = IsUtf8-from_is_utf8 b (not-false _ utf8.0); even = not-false _ parts.0; plain = parts.1 }

-- A control byte inside is found.
pub control-inside : (b : List ℕ) (j : ℕ) → j < length b → is_inside b j ≡ true → is_control (byte_at b j) ≡ true
    → has_control_inside b ≡ true
unfolding has_control_inside
control-inside b j l inside control =
    let bad : ℕ → Bool = λ i. is_inside b i && is_control (byte_at b i) in
    let there : get_or (indices b) j 0 ≡ j = omega (arith, get_or-range_with_len 0 (length b) j 0 l) in
    list_any_at bad (indices b) j 0 (omega (arith, length-range_with_len 0 (length b))) (ap bad there ∙ and_from _ _ inside control)
