-- What was picked of lines is in front of what is picked of more.
use Rattle.std.proofs.Common.{◌≡◌, ◌∙◌, ap, cond, refl, subst, sym, List, ℕ, [], ◌++◌, append-nil, inl, inr, Option, false, true}
use Rattle.std.specs.Prelude.{◌⊎◌, Bool, if◌then◌else◌}
use Rattle.simd_json_parts.specs.Pieces.{pieces}
use Rattle.programs.proofs.Begins.{begins-more}
use Rattle.programs.specs.Failures.{Begins}
use Rattle.programs.proofs.Folds.{begins-lines}
use Rattle.jsonl.specs.Records.{Outcome, blank, value, rejected, outcome_of_line}
use Rattle.jpick.specs.Picked.{Picked, next, no_line, picked_document, picked_lines, picked_of, rejection_line, rows_of, with_line}
use Rattle.jpick.specs.Picked.{with_outcome}
use Rattle.jpick.specs.Runs.{IsPart}
use Rattle.jpick.specs.declared.fields.Wanted.{Wanted}

record Grows (r s : Picked) : Type 0 where
  pub more : List ℕ
  pub all : r.rejections ++ more ≡ s.rejections
  pub more_rows : List ℕ
  pub all_rows : r.rows ++ more_rows ≡ s.rows

grows : (w : Wanted) (file : List ℕ) (r : Picked) (text : List ℕ) (o : Outcome) → Grows r (with_outcome w file r text o)
grows w file r text blank =
    record { more = []; all = append-nil r.rejections; more_rows = []; all_rows = append-nil r.rows }
grows w file r text (value d) =
    record { more = []; all = append-nil r.rejections; more_rows = rows_of w d; all_rows = refl }
grows w file r text (rejected error) =
    record { more = rejection_line w file r.number text error; all = refl; more_rows = []; all_rows = append-nil r.rows }

grows-unless : (w : Wanted) (file : List ℕ) (r : Picked) (text : List ℕ) (o : Outcome) (over : Bool)
    → Grows r (if over then r else with_outcome w file (next r) text o)
grows-unless w file r text o true =
    record { more = []; all = append-nil r.rejections; more_rows = []; all_rows = append-nil r.rows }
grows-unless w file r text o false =
    let g = grows w file (next r) text o in
    record { more = g.more; all = g.all; more_rows = g.more_rows; all_rows = g.all_rows }

grows-line : (w : Wanted) (file : List ℕ) (r : Picked) (line : List ℕ) → Grows r (with_line w file r line)
grows-line w file r line = grows-unless w file r line (outcome_of_line w.longest w.depth line) r.is_over

rejections-grow : (w : Wanted) (file : List ℕ) (r : Picked) (line : List ℕ)
    → (more : List ℕ) × (r.rejections ++ more ≡ (with_line w file r line).rejections)
rejections-grow w file r line = let g = grows-line w file r line in (g.more, g.all)

rows-grow : (w : Wanted) (file : List ℕ) (r : Picked) (line : List ℕ)
    → (more : List ℕ) × (r.rows ++ more ≡ (with_line w file r line).rows)
rows-grow w file r line = let g = grows-line w file r line in (g.more_rows, g.all_rows)

module _ (w : Wanted) (file : List ℕ) where
  pub document-all : w.is_document ≡ true → picked_of w file ≡ picked_document w file
  document-all is = ap (λ b. cond b (picked_document w file) (picked_lines w file)) is

  pub lines-all : w.is_document ≡ false → picked_of w file ≡ picked_lines w file
  lines-all is = ap (λ b. cond b (picked_document w file) (picked_lines w file)) is

  pub document-part : w.is_document ≡ true → (input : List ℕ) (r : Picked) → ((r ≡ no_line) ⊎ (r ≡ picked_document w file input))
      → IsPart w file input r
  document-part is input r (inl none) = inl none
  document-part is input r (inr all) = inr (inl (all ∙ ap (λ picked. picked input) (sym (document-all is))))

  module _ (text : Picked → List ℕ) (none : text no_line ≡ [])
      (grow : (r : Picked) (line : List ℕ) → (more : List ℕ) × (text r ++ more ≡ text (with_line w file r line))) where
    -- a beginning of what was picked of a part is one of all
    begins-part : (input : List ℕ) (r : Picked) (held holds : Option (List ℕ)) → IsPart w file input r → Begins held holds (text r)
        → Begins held holds (text (picked_of w file input))
    begins-part input r held holds (inl is) begun =
        begins-more held holds [] _ (subst (Begins held holds) (ap text is ∙ none) begun)
    begins-part input r held holds (inr (inl is)) begun = subst (λ s. Begins held holds (text s)) is begun
    begins-part input r held holds (inr (inr (lined, done, rest, all, is))) begun =
        subst (λ picked. Begins held holds (text (picked input))) (sym (lines-all lined))
        (begins-lines (with_line w file) text grow held holds no_line done rest (pieces input) all
        (subst (λ s. Begins held holds (text s)) is begun))

  pub rows-begun : (input : List ℕ) (r : Picked) (held holds : Option (List ℕ)) → IsPart w file input r → Begins held holds r.rows
      → Begins held holds (picked_of w file input).rows
  rows-begun = begins-part (λ r. r.rows) refl (rows-grow w file)

  pub rejections-begun : (input : List ℕ) (r : Picked) (held holds : Option (List ℕ)) → IsPart w file input r
      → Begins held holds r.rejections → Begins held holds (picked_of w file input).rejections
  rejections-begun = begins-part (λ r. r.rejections) refl (rejections-grow w file)
