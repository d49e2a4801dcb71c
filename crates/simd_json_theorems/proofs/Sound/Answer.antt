-- What an input answers, it denotes within the limits.
use Rattle.std.proofs.Common.{◌≡◌, refl, subst, ℕ, ◌≤◌, List}
use Rattle.std.specs.Prelude.{Option, Some, None, Result, Ok, IfOk}
use Rattle.simd_json_parts.specs.Answer.{answer, fault_or}
use Rattle.simd_json_parts.specs.Descent.{descent}
use Rattle.simd_json_parts.specs.Document.{Document}
use Rattle.simd_json_parts.specs.Grammar.{Denotes}
use Rattle.simd_json_parts.specs.InputFaults.{input_fault}
use Rattle.simd_json_parts.specs.Limits.{WithinLimits, depth, IntegersFit}
use Rattle.simd_json_parts.specs.declared.error.Error.{Error}
use Rattle.simd_json_theorems.proofs.Sound.TokensInPlace.{tokens-spelled}
use Rattle.simd_json_theorems.proofs.Sound.Descent.{descent-sound}
use Rattle.simd_json_parts.proofs.Positions.CleanInputs.{IsClean, IsClean-input}

-- A document comes from the descent of an input without a fault.
fault_or-Ok : (o : Option Error) (r : Result Document Error) (d : Document) → fault_or o r ≡ Ok d → (o ≡ None) × (r ≡ Ok d)
fault_or-Ok None r d e = (refl, e)
fault_or-Ok (Some f) r d e = cc

-- What an input answers, it denotes within the limits.
pub answer-sound : (b : List ℕ) (limit : ℕ) (d : Document) → answer b limit ≡ Ok d → Denotes b d × WithinLimits b d limit
unfolding answer
answer-sound b limit d is =
    let parts : (input_fault b ≡ None) × (descent b limit ≡ Ok d) = fault_or-Ok _ _ d is in
    let fine : IsClean b = IsClean-input b parts.0 in
    let Sound : Document → Type 0 = λ d. Denotes b d × IntegersFit d × (depth d ≤ limit) in
    let sound : Sound d = subst (λ r. IfOk r Sound) parts.1 (descent-sound b limit (tokens-spelled b fine)) in
    (sound.0, record { size = fine.size; nesting = sound.2; integers = sound.1 })
