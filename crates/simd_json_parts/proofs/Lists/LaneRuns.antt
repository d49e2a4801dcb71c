-- A run of bytes, seen a vector at a time by the mask of the bytes that end it.
use Rattle.std.proofs.Common.{◌≡◌, refl, sym, ◌∙◌, ap, ap₂, ℕ, ◌+◌, ◌*◌, ◌%◌, ◌^◌, ◌<◌, ◌≤◌, List, [], ◌∷◌, length, drop, map}
use Rattle.std.proofs.Common.{replicate, Bool, true, false, not, cond, eqb, ◌||◌, inl, inr, arith}
use Rattle.std.specs.List.{prefix_len}
use Rattle.std.proofs.lemmas.Simd.{chunk-drop, length-chunk, leading_from_mask_l, trailing_mask_l, zip2_splat, zip2_of_maps}
use Rattle.std.proofs.lemmas.Simd.{map-map, mask_l-mod}
use Rattle.std.proofs.lemmas.List.{length-map}
use Rattle.std.proofs.lemmas.List.Folds.{prefix_len-append}
use Rattle.std.proofs.lemmas.List.Sums.{prefix_len-le-length}
use Rattle.std.proofs.lemmas.Bool.{eq-eqb, ne_eqb, cases_Bool}
use lib.Bits.{bit_or}
use lib.Lanes.{chunk, mask_l, zip2, top}
use lib.Count.{count_trailing_zeros}

-- the run in a vector, and on after it if it fills the vector
split : (p : ℕ → Bool) (d : List ℕ) (i n : ℕ) → let run : List ℕ → ℕ = prefix_len (λ x. not (p x)) in
    run (drop i d) ≡ cond (eqb (run (chunk i n d)) (length (chunk i n d))) (length (chunk i n d) + run (drop (i + n) d)) (run (chunk i n d))
split p d i n = ap (prefix_len (λ x. not (p x))) (chunk-drop i n d) ∙ prefix_len-append (λ x. not (p x)) (chunk i n d) (drop (i + n) d)

-- With no bit set, the run goes on after the vector.
pub run-through : (p : ℕ → Bool) (d : List ℕ) (i n : ℕ) → i + n ≤ length d → mask_l (map p (chunk i n d)) ≡ 0
    → prefix_len (λ x. not (p x)) (drop i d) ≡ n + prefix_len (λ x. not (p x)) (drop (i + n) d)
run-through p d i n enough none =
    let c : List ℕ = chunk i n d in
    let run : List ℕ → ℕ = prefix_len (λ x. not (p x)) in
    split p d i n ∙ ap (λ b. cond b (length c + run (drop (i + n) d)) (run c)) (eq-eqb _ _ (leading_from_mask_l p c none))
    ∙ ap (λ k. k + run (drop (i + n) d)) (length-chunk i n d enough)

-- a run through all bytes sets no bit
none-set : (p : ℕ → Bool) (xs : List ℕ) → prefix_len (λ x. not (p x)) xs ≡ length xs → mask_l (map p xs) ≡ 0
none-set p [] e = refl
none-set p (x ∷ xs) e =
    let n : ℕ = prefix_len (λ x. not (p x)) xs in
    elim (cases_Bool (p x)) [
      | inl h ↦ let none : 0 ≡ length (x ∷ xs) = sym (ap (λ t. cond (not t) (1 + n) 0) h) ∙ e in absurd (omega arith)
      | inr h ↦
          let more : 1 + n ≡ length (x ∷ xs) = sym (ap (λ t. cond (not t) (1 + n) 0) h) ∙ e in
          let rest : mask_l (map p xs) ≡ 0 = none-set p xs (omega arith) in
          ap (λ t. cond t 1 0 + 2 * mask_l (map p xs)) h ∙ omega arith
    ]

-- With a bit set, it ends at the first,
pub run-ends : (p : ℕ → Bool) (d : List ℕ) (i n : ℕ) → i + n ≤ length d → n ≤ 64 → 0 < mask_l (map p (chunk i n d))
    → prefix_len (λ x. not (p x)) (drop i d) ≡ count_trailing_zeros 64 (mask_l (map p (chunk i n d)))
run-ends p d i n enough short some =
    let c : List ℕ = chunk i n d in
    let run : List ℕ → ℕ = prefix_len (λ x. not (p x)) in
    let fits : length c ≤ 64 = omega (arith, length-chunk i n d enough) in
    split p d i n
    ∙ ap (λ b. cond b (length c + run (drop (i + n) d)) (run c)) (ne_eqb _ _ (λ (e : run c ≡ length c). omega (arith, none-set p c e)))
    ∙ sym (trailing_mask_l p 64 c fits some)

-- and inside the vector.
pub run-within : (p : ℕ → Bool) (d : List ℕ) (i n : ℕ) → i + n ≤ length d → n ≤ 64 → 0 < mask_l (map p (chunk i n d))
    → count_trailing_zeros 64 (mask_l (map p (chunk i n d))) ≤ n
run-within p d i n enough short some =
    let c : List ℕ = chunk i n d in
    let fits : length c ≤ 64 = omega (arith, length-chunk i n d enough) in
    omega (arith, trailing_mask_l p 64 c fits some, prefix_len-le-length (λ x. not (p x)) c, length-chunk i n d enough)

-- ---- the mask of two bytes

abbrev hit : ℕ → ℕ → ℕ
hit a b = cond (eqb a b) 255 0

-- the top bit of a lane that was hit by either
hit-either : (t u : Bool) → top 7 (bit_or (cond t 255 0) (cond u 255 0)) ≡ (t || u)
hit-either true true = refl
hit-either true false = refl
hit-either false true = refl
hit-either false false = refl

-- functions with the same values map alike
pub map-same : {X Y : Type 0} (f g : X → Y) → ((x : X) → f x ≡ g x) → (xs : List X) → map f xs ≡ map g xs
map-same f g same [] = refl
map-same f g same (x ∷ xs) = ap₂ (λ y ys. y ∷ ys) (same x) (map-same f g same xs)

-- The mask of the lanes that are either byte.
pub mask-either : (a b n : ℕ) (v : List ℕ) → length v ≡ n → n ≤ 64
    → mask_l (map (top 7) (zip2 bit_or (zip2 hit v (replicate n a)) (zip2 hit v (replicate n b)))) % 2 ^ 64
    ≡ mask_l (map (λ x. eqb x a || eqb x b) v)
mask-either a b n v long short =
    let lanes : zip2 bit_or (zip2 hit v (replicate n a)) (zip2 hit v (replicate n b)) ≡ map (λ x. bit_or (hit x a) (hit x b)) v =
    zip2_of_maps bit_or (λ x. hit x a) (λ x. hit x b) v (zip2_splat hit v n a long) (zip2_splat hit v n b long) in
    let tops : map (top 7) (map (λ x. bit_or (hit x a) (hit x b)) v) ≡ map (λ x. eqb x a || eqb x b) v =
    map-map (top 7) (λ x. bit_or (hit x a) (hit x b)) v ∙ map-same _ _ (λ x. hit-either (eqb x a) (eqb x b)) v in
    ap (λ us. mask_l us % 2 ^ 64) (ap (map (top 7)) lanes ∙ tops)
    ∙ mask_l-mod (map (λ x. eqb x a || eqb x b) v) 64 (omega (arith, length-map v (λ x. eqb x a || eqb x b)))
