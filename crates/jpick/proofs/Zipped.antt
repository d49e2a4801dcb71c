-- Elements of two lists at the same places.
use Rattle.std.proofs.Common.{◌∙◌, ap, sym, subst, List, [], ◌∷◌, ◌++◌, append_assoc, ℕ, ◌+◌, ◌<◌, length, take, map, get_or}
use Rattle.std.proofs.lemmas.List.{map-append, take_more}
use Rattle.std.specs.List.{AllZip}

pub zip-push : {A B : Type 0} (R : A → B → Type 0) (xs : List A) (ys : List B) (x : A) (y : B) → AllZip R xs ys → R x y
    → AllZip R (xs ++ x ∷ []) (ys ++ y ∷ [])
zip-push R [] [] x y all one = (one, tt)
zip-push R [] (z ∷ ys) x y all one = absurd all
zip-push R (z ∷ xs) [] x y all one = absurd all
zip-push R (w ∷ xs) (z ∷ ys) x y all one = (all.0, zip-push R xs ys x y all.1 one)

-- one element of a list more
pub zip-more : {A B C : Type 0} (R : A → B → Type 0) (f : C → B) (old : List B) (xs : List A) (zs : List C) (i : ℕ) (d : C) (x : A)
    → i < length zs → AllZip R xs (old ++ map f (take i zs)) → R x (f (get_or zs i d))
    → AllZip R (xs ++ x ∷ []) (old ++ map f (take (i + 1) zs))
zip-more R f old xs zs i d x more all one =
    subst (AllZip R (xs ++ x ∷ [])) (append_assoc old (map f (take i zs)) (f (get_or zs i d) ∷ [])
    ∙ ap (λ ys. old ++ ys) (sym (ap (map f) (take_more zs i d more) ∙ map-append f (take i zs) (get_or zs i d ∷ []))))
    (zip-push R xs (old ++ map f (take i zs)) x (f (get_or zs i d)) all one)
