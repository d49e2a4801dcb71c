-- What the test of a whole input finds is what a parse answers.
use Rattle.std.proofs.Common.{◌≡◌, ◌∙◌, ap, sym, refl, subst, ◌<◌, ◌≤◌, ℕ, List, length, arith, cond}
use Rattle.std.proofs.Common.{Bool, true, false, not, Some, None, Ok, Err, nat_lt, ◌⊎◌, inl, inr, [], ◌==◌, is_some}
use Rattle.std.proofs.Common.{Result, IfSome}
use Rattle.std.specs.Result.{IsErrAnd, result_err}
use Rattle.std.specs.Str.{is_utf8}
use Rattle.std.proofs.lemmas.Bool.{cases_lt}
use Rattle.simd_json_parts.proofs.Positions.ScannedInputs.{too_large}
use Rattle.simd_json_parts.specs.Answer.{answer}
use Rattle.simd_json_parts.specs.Faults.{whole_fault}
use Rattle.simd_json_parts.specs.InputFaults.{has_bad_string, input_fault}
use Rattle.simd_json_parts.specs.Limits.{max_length}
use Rattle.simd_json_parts.specs.Positions.{positions}
use Rattle.simd_json_check.specs.Checkers.{CheckerCapacities, IsUnchecked}
use Rattle.simd_json_stages.proofs.Whole.{fault-answered}
use Rattle.simd_json_stages.specs.Capacities.{IndexCapacities, IsScanError, capacity, positions_after}
use Rattle.simd_json_parts.specs.declared.error.Error.{Error}
use Rattle.simd_json_parts.specs.declared.error.ErrorType.TheVariants.{Eof, InputTooLarge, InvalidUtf8, OutOfMemory, Syntax}

-- ---- what is listed after an error

-- the fault of a whole input has no character
abbrev IsSilent : Error → Type 0
IsSilent e = is_some e.character ≡ false

either-silent : (large text bad empty : Bool) → IfSome (cond large (Some (whole_fault InputTooLarge))
    (cond (not text) (Some (whole_fault InvalidUtf8)) (cond bad (Some (whole_fault Syntax)) (cond empty (Some (whole_fault Eof)) None))))
    IsSilent
either-silent true text bad empty = refl
either-silent false false bad empty = refl
either-silent false true true empty = refl
either-silent false true false true = refl
either-silent false true false false = tt

whole-silent : (b : List ℕ) → IfSome (input_fault b) IsSilent
unfolding input_fault
whole-silent b = either-silent (nat_lt max_length (length b)) (is_utf8 b) (has_bad_string b) (length (positions b) == 0)

rejected-silent : (b : List ℕ) (before : IndexCapacities) (e : Error) → IsScanError b before e → IsSilent e
rejected-silent b before e (inl whole) = subst (λ o. IfSome o IsSilent) whole (whole-silent b)
rejected-silent b before e (inr lacks) = ap (λ x. is_some x.character) lacks.0.0

-- so nothing is listed where the first stage rejects
pub rejected-listed : {A : Type 0} (r : Result A Error) (b : List ℕ) (before : IndexCapacities) (e : Error) (listed : List ℕ)
    → IsErrAnd r (λ x. x ≡ e) → IsScanError b before e → listed ≡ [] → listed ≡ positions_after b (result_err r)
rejected-listed (Ok x) b before e listed err rejected none = absurd err
rejected-listed (Err x) b before e listed err rejected none =
    none ∙ ap (λ t. cond t (positions b) []) (sym (ap (λ x. is_some x.character) err ∙ rejected-silent b before e rejected))

-- ---- what the first stage rejects

pub check-rejected : (b : List ℕ) (limit : ℕ) (index : IndexCapacities) (before : CheckerCapacities) (e : Error)
    → index ≡ before.index → IsScanError b index e → (answer b limit ≡ Err e) ⊎ IsUnchecked b limit before e
check-rejected b limit index before e same (inl whole) = inl (fault-answered b limit e whole)
check-rejected b limit index before e same (inr (lacks, short)) =
    inr (lacks, omega (arith, subst (λ i. capacity i < length b) same short))

-- ---- want of memory

-- an error of this kind is the answer only where the size is right
pub size_right : (b : List ℕ) (limit : ℕ) (e : Error) → answer b limit ≡ Err e → e.error ≡ OutOfMemory → length b ≤ max_length
size_right b limit e is kind = elim (cases_lt max_length (length b)) [
  | inl large ↦
      let same : Err e ≡ Err (whole_fault InputTooLarge) =
      sym is ∙ fault-answered b limit (whole_fault InputTooLarge) (too_large b large) in
      absurd (cc (same, kind))
  | inr right ↦ right
]
