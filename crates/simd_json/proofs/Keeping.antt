-- Nodes in memory that grows, one more at a time.
use Rattle.std.proofs.Common.{◌≡◌, ◌∙◌, ap, sym, ℕ, ◌<◌, ◌+◌, refl, arith, List, [], ◌∷◌, ◌++◌, length, map, zero, suc, slice_set}
use Rattle.std.proofs.lemmas.List.{length-append, length-map, map-append, map-set}
use Rattle.simd_json_stages.specs.Placed.{Placed}

pub length-push : {X : Type 0} (xs : List X) (x : X) → length (xs ++ x ∷ []) ≡ length xs + 1
length-push xs x = length-append xs (x ∷ [])

pub kept-push : {N : Type 0} (form : Placed → N) (ps : List Placed) (p : Placed) (nodes newer : List N) (node : N)
    → nodes ≡ map form ps → node ≡ form p → newer ≡ nodes ++ node ∷ [] → newer ≡ map form (ps ++ p ∷ [])
kept-push form ps p nodes newer node kept is put =
    put ∙ ap (λ l. l ++ node ∷ []) kept ∙ ap (λ y. map form ps ++ y ∷ []) is ∙ sym (map-append form ps (p ∷ []))

pub kept-set : {N : Type 0} (form : Placed → N) (ps : List Placed) (i : ℕ) (p : Placed) (nodes newer : List N) (node : N)
    → nodes ≡ map form ps → i < length ps → node ≡ form p → (i < length nodes → newer ≡ slice_set nodes i node)
    → newer ≡ map form (slice_set ps i p)
kept-set form ps i p nodes newer node kept within is fits =
    fits (omega (arith, within, ap length kept, length-map ps form)) ∙ ap (λ l. slice_set l i node) kept
    ∙ ap (λ y. slice_set (map form ps) i y) is ∙ sym (map-set form ps i p)

-- One more is kept or lost.
pub counted-push : {N : Type 0} (ps : List Placed) (p : Placed) (nodes newer : List N) (node : N) (lost after : ℕ)
    → length nodes + lost ≡ length ps → (after ≡ 0 → (lost ≡ 0) × (newer ≡ nodes ++ node ∷ []))
    → (0 < after → (after ≡ lost + 1) × (newer ≡ nodes)) → length newer + after ≡ length (ps ++ p ∷ [])
counted-push ps p nodes newer node lost zero is kept more =
    let k = kept refl in
    omega (arith, is, k.0, ap length k.1, length-push nodes node, length-push ps p)
counted-push ps p nodes newer node lost (suc after) is kept more =
    let m = more (omega arith) in
    omega (arith, is, m.0, ap length m.1, length-push ps p)
