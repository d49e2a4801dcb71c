-- The selectors of words and keys, one after another.
use Rattle.std.proofs.Common.{◌≡◌, ◌∙◌, ap, inl, inr, refl, ℕ, ◌+◌, ◌<◌, List, [], ◌∷◌, ◌++◌, length, map, take}
use Rattle.std.proofs.Common.{get_or}
use Rattle.std.proofs.lemmas.List.{map-append, take_more}
use Rattle.std.specs.Borrow.{Bor}
use Rattle.log_report.specs.Asked.{AreOf, IsOfKey, IsOfWord}
use Rattle.log_report.specs.declared.rows.Selector.{Selector}

pub word-last : (words keys : List (List ℕ)) (ss : List Selector) (text : List ℕ) (s : Selector) → AreOf words keys ss
    → IsOfWord text s → AreOf (words ++ text ∷ []) keys (ss ++ s ∷ [])
word-last words keys [] text s are is = inl (text, [], ap (λ us. us ++ text ∷ []) are.0, is, (refl, are.1))
word-last words keys (t ∷ ss) text s are is = elim are [
  | inl h ↦ inl (h.0, h.1 ++ text ∷ [], ap (λ us. us ++ text ∷ []) h.2, h.3, word-last h.1 keys ss text s h.4 is)
  | inr h ↦ inr (h.0, h.1, h.2, h.3, word-last words h.1 ss text s h.4 is)
]

pub key-last : (words keys : List (List ℕ)) (ss : List Selector) (text : List ℕ) (s : Selector) → AreOf words keys ss
    → IsOfKey text s → AreOf words (keys ++ text ∷ []) (ss ++ s ∷ [])
key-last words keys [] text s are is = inr (text, [], ap (λ us. us ++ text ∷ []) are.1, is, (are.0, refl))
key-last words keys (t ∷ ss) text s are is = elim are [
  | inl h ↦ inl (h.0, h.1, h.2, h.3, key-last h.1 keys ss text s h.4 is)
  | inr h ↦ inr (h.0, h.1 ++ text ∷ [], ap (λ us. us ++ text ∷ []) h.2, h.3, key-last words h.1 ss text s h.4 is)
]

abbrev pub written : List (Bor (List ℕ)) → List (List ℕ)
written texts = map (λ text. text.now) texts

pub take-written : (texts : List (Bor (List ℕ))) (i : ℕ) (d : Bor (List ℕ)) → i < length texts
    → written (take (i + 1) texts) ≡ written (take i texts) ++ (get_or texts i d).now ∷ []
take-written texts i d within =
    ap written (take_more texts i d within) ∙ map-append (λ text. text.now) (take i texts) (get_or texts i d ∷ [])
