-- What is shown of some characters, one after another.
use Rattle.std.proofs.Common.{◌≡◌, ◌∙◌, ap, ℕ, List, [], ◌∷◌, ◌++◌, append-nil}
use Rattle.std.proofs.lemmas.List.Concat.{flat_map-append}
use Rattle.jcheck.specs.Excerpts.{visible, visible_text}

pub visible-push : (cs : List ℕ) (c : ℕ) → visible_text (cs ++ c ∷ []) ≡ visible_text cs ++ visible c
visible-push cs c = flat_map-append visible cs (c ∷ []) ∙ ap (λ t. visible_text cs ++ t) (append-nil (visible c))
