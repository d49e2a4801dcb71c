-- What a loop puts: what each element stands for, one after another.
use Rattle.std.proofs.Common.{◌≡◌, ◌∙◌, ap, sym, true, ◌<◌, ◌+◌, ℕ, List, take, drop, length, get_or, flat_map, take-append-drop, is_some}
use Rattle.std.proofs.Math.Seq.{take-length}
use Rattle.std.proofs.lemmas.List.Concat.{flat_map-append}
use Rattle.simd_json_print.specs.Texts.{TargetState, Adds}
use Rattle.simd_json_print.specs.declared.text.Text.{Text}
use Rattle.simd_json_print.proofs.FlatMaps.{flat_map-more}
use Rattle.simd_json_print.proofs.Texts.{adds-is, adds-then, adds-lost}

-- one element more
pub adds-more : {T : Type 0} {size : ℕ} {X : Type 0} (state : T → TargetState) (f : X → List ℕ) (xs : List X) (i : ℕ) (d : X)
    (a b c : Text T size) → i < length xs → Adds state a b (flat_map f (take i xs)) → Adds state b c (f (get_or xs i d))
    → Adds state a c (flat_map f (take (i + 1) xs))
adds-more state f xs i d a b c more g h =
    adds-is state a c _ _ (sym (flat_map-more f xs i d more))
    (adds-then state a b c (flat_map f (take i xs)) (f (get_or xs i d)) g h)

-- all of them
pub adds-all : {T : Type 0} {size : ℕ} {X : Type 0} (state : T → TargetState) (f : X → List ℕ) (xs : List X) (i : ℕ) (a b : Text T size)
    → i ≡ length xs → Adds state a b (flat_map f (take i xs)) → Adds state a b (flat_map f xs)
adds-all state f xs i a b all g = adds-is state a b _ _ (ap (λ n. flat_map f (take n xs)) all ∙ ap (flat_map f) (take-length xs)) g

-- the others are dropped, once the target failed
pub adds-others : {T : Type 0} {size : ℕ} {X : Type 0} (state : T → TargetState) (f : X → List ℕ) (xs : List X) (i : ℕ) (a b : Text T size)
    → is_some b.fault ≡ true → Adds state a b (flat_map f (take i xs)) → Adds state a b (flat_map f xs)
adds-others state f xs i a b stopped g =
    adds-is state a b _ _ (sym (flat_map-append f (take i xs) (drop i xs)) ∙ ap (flat_map f) (take-append-drop i xs))
    (adds-lost state a b (flat_map f (take i xs)) (flat_map f (drop i xs)) stopped g)
