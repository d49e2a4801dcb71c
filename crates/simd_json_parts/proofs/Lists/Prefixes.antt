-- What is left of a list after a prefix.
use Rattle.std.proofs.Common.{◌≡◌, ◌≢◌, sym, ◌∙◌, ap, ℕ, ◌≤◌, List, ◌++◌, length, take, drop, true, false, bytes_eq}
use Rattle.std.proofs.Math.Seq.{take-append_seam}
use Rattle.std.proofs.lemmas.Bool.{false≢true}
use Rattle.std.proofs.lemmas.List.{take-append-drop, take-append-le}
use Rattle.std.proofs.lemmas.Slice.Eq.{bytes_eq-Decides}

pub not-stripped : (s p : List ℕ) → bytes_eq (take (length p) s) p ≡ false → (rest : List ℕ) → s ≢ p ++ rest
not-stripped s p h rest e =
    false≢true (sym h ∙ (bytes_eq-Decides (take (length p) s) p).1 (ap (take (length p)) e ∙ take-append_seam p rest))

pub stripped : (s p r : List ℕ) → bytes_eq (take (length p) s) p ≡ true → r ≡ drop (length p) s → s ≡ p ++ r
stripped s p r h e =
    sym (take-append-drop (length p) s) ∙ ap (λ l. l ++ drop (length p) s) ((bytes_eq-Decides (take (length p) s) p).0 h)
    ∙ ap (λ l. p ++ l) (sym e)

-- one list, with a shorter prefix and a longer one
pub shorter-prefix : (p q r s : List ℕ) → length p ≤ length q → p ++ r ≡ q ++ s → take (length p) q ≡ p
shorter-prefix p q r s fits is = sym (take-append-le (length p) q s fits) ∙ ap (take (length p)) (sym is) ∙ take-append_seam p r
