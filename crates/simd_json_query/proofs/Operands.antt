-- Tests that are joined by `||` or `&&`, from the last one on.
use Rattle.std.proofs.Common.{refl, subst, ℕ, List, [], ◌∷◌, ◌++◌}
use Rattle.simd_json_query.specs.Filters.{Operands, Word}
use Rattle.simd_json_query.specs.Spans.{◌then◌, Many}
use Rattle.simd_json_query.specs.Steps.{Blanks}
use Rattle.simd_json_query.specs.declared.filter.Test.{Test}
use Rattle.simd_json_query.proofs.Runs.{many-more}

pub many-last : {A : Type 0} (P : A → List ℕ → List ℕ → Type 0) (xs : List A) (x : A) (text rest : List ℕ) → Many P (xs ++ x ∷ []) text rest
    → (between : List ℕ) × Many P xs text between × P x between rest
many-last P [] x text rest (m, part, none) = (text, refl, subst (λ bs. P x text bs) none part)
many-last P (y ∷ xs) x text rest (m, part, parts) =
    let (between, before, last) = many-last P xs x m rest parts in (between, (m, part, before), last)

pub operands-more : (Operand : Test → List ℕ → List ℕ → Type 0) (word : List ℕ) (ts : List Test) (t : Test)
    (text between end behind others rest : List ℕ)
    → Operands Operand word ts text between → Operand t between end → Blanks end behind → Word word behind others → Blanks others rest
    → Operands Operand word (ts ++ t ∷ []) text rest
operands-more Operand word ts t text between end behind others rest read operand before is after =
    many-more (λ t. Operand t then Blanks then Word word then Blanks) ts t text between rest read
    (end, operand, (behind, before, (others, is, after)))
