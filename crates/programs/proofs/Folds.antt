-- What comes of the lines of an input, with a step for each, and what of it was written before an error.
use Rattle.std.proofs.Common.{◌≡◌, ◌∙◌, ap, refl, sym, subst, ℕ, List, [], ◌∷◌, ◌++◌, append_assoc, append-nil, Option}
use Rattle.programs.proofs.Begins.{begins-more}
use Rattle.programs.specs.Failures.{Begins}
use Rattle.programs.specs.Lines.{folded}

module _ {S : Type 0} (step : S → List ℕ → S) where
  pub folded-append : (s : S) (first rest : List (List ℕ)) → folded step s (first ++ rest) ≡ folded step (folded step s first) rest
  folded-append s [] rest = refl
  folded-append s (line ∷ first) rest = folded-append (step s line) first rest

  pub folded-last : (s : S) (done : List (List ℕ)) (line : List ℕ) → folded step s (done ++ line ∷ []) ≡ step (folded step s done) line
  folded-last s done line = folded-append s done (line ∷ [])

  -- after which there is no less of these bytes
  module _ (text : S → List ℕ) (grows : (s : S) (line : List ℕ) → (more : List ℕ) × (text s ++ more ≡ text (step s line))) where
    grows-lines : (s : S) (lines : List (List ℕ)) → (more : List ℕ) × (text s ++ more ≡ text (folded step s lines))
    grows-lines s [] = ([], append-nil (text s))
    grows-lines s (line ∷ lines) =
        let one = grows s line in
        let all = grows-lines (step s line) lines in
        (one.0 ++ all.0, sym (append_assoc (text s) one.0 all.0) ∙ ap (λ us. us ++ all.0) one.1 ∙ all.1)

    -- a beginning of those of the first lines is one of those of all
    pub begins-lines : (held holds : Option (List ℕ)) (s : S) (first rest all : List (List ℕ)) → all ≡ first ++ rest
        → Begins held holds (text (folded step s first)) → Begins held holds (text (folded step s all))
    begins-lines held holds s first rest all is begun =
        let grown = grows-lines (folded step s first) rest in
        subst (Begins held holds) (grown.1 ∙ ap text (sym (folded-append s first rest) ∙ ap (folded step s) (sym is)))
        (begins-more held holds (text (folded step s first)) grown.0 begun)

    pub begins-grown : (held holds : Option (List ℕ)) (s : S) (line : List ℕ) → Begins held holds (text s)
        → Begins held holds (text (step s line))
    begins-grown held holds s line begun =
        let one = grows s line in
        subst (Begins held holds) one.1 (begins-more held holds (text s) one.0 begun)
