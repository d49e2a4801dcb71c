-- A loop that appends what each element stands for.
use Rattle.std.proofs.Common.{◌≡◌, ◌∙◌, ap, ◌<◌, ◌+◌, ◌++◌, ◌∷◌, [], ℕ, List, take, length, get_or, flat_map, append-nil, map, refl}
use Rattle.std.proofs.lemmas.List.{take_more}
use Rattle.std.proofs.lemmas.List.Concat.{flat_map-append}

-- one element more
pub flat_map-more : {X Y : Type 0} (f : X → List Y) (xs : List X) (i : ℕ) (d : X) → i < length xs
    → flat_map f (take (i + 1) xs) ≡ flat_map f (take i xs) ++ f (get_or xs i d)
flat_map-more f xs i d l =
    ap (flat_map f) (take_more xs i d l) ∙ flat_map-append f (take i xs) (get_or xs i d ∷ [])
    ∙ ap (λ ys. flat_map f (take i xs) ++ ys) (append-nil (f (get_or xs i d)))

-- the pieces of what elements are seen as
pub flat_map-map : {X Y Z : Type 0} (f : Y → List Z) (g : X → Y) (xs : List X) → flat_map f (map g xs) ≡ flat_map (λ x. f (g x)) xs
flat_map-map f g [] = refl
flat_map-map f g (x ∷ xs) = ap (λ zs. f (g x) ++ zs) (flat_map-map f g xs)
