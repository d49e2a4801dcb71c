-- Elements with their indexes: of those that a slice selects, each is its step from the one before it.
use Rattle.std.proofs.Common.{◌≡◌, ◌∙◌, ap, sym, refl, ◌<◌, ◌≤◌, ◌+◌, ◌-◌, ◌^◌, ℕ, zero, suc, List, [], ◌∷◌, ◌++◌, length}
use Rattle.std.proofs.Common.{drop, take, arith, inl, inr, reverse, length-take, length-take-le, length-drop}
use Rattle.std.specs.Prelude.{ℤ, pos, negsuc, Option, Some, None}
use Rattle.std.proofs.lemmas.Bool.{cases_lt}
use Rattle.std.proofs.lemmas.List.{drop_all, length-reverse, reverse-append}
use Rattle.simd_json_parts.specs.Document.{Document}
use Rattle.simd_json_path.specs.Locations.{Place, index, numbered}
use Rattle.simd_json_path.specs.PlacedNodes.{first_by, moved, numbered_by}
use Rattle.simd_json_path.specs.Slices.{backward, bound_after_or, bound_or, by_step, every, forward}
use Rattle.simd_json_query.specs.declared.query.Slice.{Slice}
use Rattle.simd_json_path.proofs.Slices.{every-skip}

pub numbered-one : (i : ℕ) (ds : List Document) → i + length ds < 2 ^ 64 → numbered_by (pos 1) i ds ≡ numbered i ds
numbered-one i [] few = refl
numbered-one i (d ∷ ds) few =
    let next : moved i (pos 1) ≡ suc i = omega arith in
    ap (λ xs. (index i, d) ∷ xs) (ap (λ n. numbered_by (pos 1) n ds) next ∙ numbered-one (suc i) ds (omega arith))

-- ---- parts

pub length-numbered : (i : ℕ) (ds : List Document) → length (numbered i ds) ≡ length ds
length-numbered i [] = refl
length-numbered i (d ∷ ds) = ap suc (length-numbered (suc i) ds)

take-numbered : (n i : ℕ) (ds : List Document) → take n (numbered i ds) ≡ numbered i (take n ds)
take-numbered zero i ds = refl
take-numbered (suc n) i [] = refl
take-numbered (suc n) i (d ∷ ds) = ap (λ xs. (index i, d) ∷ xs) (take-numbered n (suc i) ds)

drop-numbered : (n i : ℕ) (ds : List Document) → drop n (numbered i ds) ≡ numbered (i + n) (drop n ds)
drop-numbered zero i ds = ap (λ k. numbered k ds) (omega arith)
drop-numbered (suc n) i [] = refl
drop-numbered (suc n) i (d ∷ ds) = drop-numbered n (suc i) ds ∙ ap (λ k. numbered k (drop n ds)) (omega arith)

middle-numbered : (from to : ℕ) (ds : List Document) → drop from (take to (numbered 0 ds)) ≡ numbered from (drop from (take to ds))
middle-numbered from to ds =
    ap (drop from) (take-numbered to 0 ds)
    ∙ drop-numbered from 0 (take to ds)
    ∙ ap (λ k. numbered k (drop from (take to ds))) (omega arith)

-- ---- forward

every-none : (gap skip : ℕ) (ds : List Document) → length ds ≤ skip → every gap skip ds ≡ []
every-none gap skip ds few = every-skip gap skip ds ∙ ap (every gap 0) (drop_all skip ds few)

start-moved : (gap i : ℕ) (ds : List Document) → i + suc (length ds) < 2 ^ 64
    → numbered_by (pos (suc gap)) (suc i + gap) (every gap gap ds)
    ≡ numbered_by (pos (suc gap)) (moved i (pos (suc gap))) (every gap gap ds)
start-moved gap i ds few = elim (cases_lt (i + suc gap) (2 ^ 64)) [
  | inl less ↦ ap (λ k. numbered_by (pos (suc gap)) k (every gap gap ds)) (omega arith)
  | inr more ↦
      let none = every-none gap gap ds (omega arith) in
      ap (numbered_by (pos (suc gap)) (suc i + gap)) none
      ∙ sym (ap (numbered_by (pos (suc gap)) (moved i (pos (suc gap)))) none)
]

every-numbered : (gap skip i : ℕ) (ds : List Document) → i + length ds < 2 ^ 64
    → every gap skip (numbered i ds) ≡ numbered_by (pos (suc gap)) (i + skip) (every gap skip ds)
every-numbered gap zero i [] few = refl
every-numbered gap (suc skip) i [] few = refl
every-numbered gap zero i (d ∷ ds) few =
    let same : i ≡ i + 0 = omega arith in
    ap (λ xs. (index i, d) ∷ xs) (every-numbered gap gap (suc i) ds (omega arith) ∙ start-moved gap i ds (omega arith))
    ∙ ap (λ k. numbered_by (pos (suc gap)) k (d ∷ every gap gap ds)) same
every-numbered gap (suc skip) i (d ∷ ds) few =
    every-numbered gap skip (suc i) ds (omega arith) ∙ ap (λ k. numbered_by (pos (suc gap)) k (every gap skip ds)) (omega arith)

forward-numbered : (s : Slice) (gap : ℕ) (ds : List Document) → length ds < 2 ^ 64 → bound_or s.start 0 (length ds) ≤ length ds
    → numbered_by (pos (suc gap)) (bound_or s.start 0 (length ds)) (forward s gap ds) ≡ forward s gap (numbered 0 ds)
forward-numbered s gap ds few within =
    let len = length ds in
    let from = bound_or s.start 0 len in
    let to = bound_or s.end len len in
    let part = drop from (take to ds) in
    let fits : from + length part < 2 ^ 64 = omega (arith, length-drop from (take to ds), length-take to ds) in
    sym (ap (λ n. every gap 0 (drop (bound_or s.start 0 n) (take (bound_or s.end n n) (numbered 0 ds)))) (length-numbered 0 ds)
    ∙ ap (every gap 0) (middle-numbered from to ds)
    ∙ every-numbered gap 0 from part fits
    ∙ ap (λ k. numbered_by (pos (suc gap)) k (every gap 0 part)) (omega arith))

-- ---- back

abbrev countdown : ℕ → List Document → List (Place × Document)
countdown i [] = []
countdown i (d ∷ ds) = (index i, d) ∷ countdown (i - 1) ds

countdown-last : (i : ℕ) (ds : List Document) (d : Document)
    → countdown i (ds ++ d ∷ []) ≡ countdown i ds ++ (index (i - length ds), d) ∷ []
countdown-last i [] d = ap (λ k. (index k, d) ∷ []) (omega arith)
countdown-last i (e ∷ ds) d =
    ap (λ xs. (index i, e) ∷ xs) (countdown-last (i - 1) ds d ∙ ap (λ k. countdown (i - 1) ds ++ (index k, d) ∷ []) (omega arith))

reverse-numbered : (i : ℕ) (ds : List Document) → reverse (numbered i ds) ≡ countdown (i + length ds - 1) (reverse ds)
reverse-numbered i [] = refl
reverse-numbered i (d ∷ ds) =
    let end = i + suc (length ds) - 1 in
    reverse-append ((index i, d) ∷ []) (numbered (suc i) ds)
    ∙ ap (λ xs. xs ++ (index i, d) ∷ []) (reverse-numbered (suc i) ds)
    ∙ ap (λ k. countdown k (reverse ds) ++ (index i, d) ∷ []) (omega arith)
    ∙ ap (λ k. countdown end (reverse ds) ++ (index k, d) ∷ []) (omega (arith, length-reverse ds))
    ∙ sym (countdown-last end (reverse ds) d)
    ∙ ap (countdown end) (sym (reverse-append (d ∷ []) ds))

every-countdown : (gap skip i : ℕ) (ds : List Document)
    → every gap skip (countdown i ds) ≡ numbered_by (negsuc gap) (i - skip) (every gap skip ds)
every-countdown gap zero i [] = refl
every-countdown gap (suc skip) i [] = refl
every-countdown gap zero i (d ∷ ds) =
    ap (λ xs. (index i, d) ∷ xs) (every-countdown gap gap (i - 1) ds
    ∙ ap (λ k. numbered_by (negsuc gap) k (every gap gap ds)) (omega arith))
    ∙ ap (λ k. numbered_by (negsuc gap) k (d ∷ every gap gap ds)) (omega arith)
every-countdown gap (suc skip) i (d ∷ ds) =
    every-countdown gap skip (i - 1) ds ∙ ap (λ k. numbered_by (negsuc gap) k (every gap skip ds)) (omega arith)

back-part : (floor end gap : ℕ) (ds : List Document) → end ≤ length ds
    → every gap 0 (reverse (numbered floor (drop floor (take end ds))))
    ≡ numbered_by (negsuc gap) (end - 1) (every gap 0 (reverse (drop floor (take end ds))))
back-part floor end gap ds within =
    let part = drop floor (take end ds) in
    let size : length part ≡ end - floor = omega (arith, length-drop floor (take end ds), length-take-le end ds within) in
    ap (every gap 0) (reverse-numbered floor part)
    ∙ every-countdown gap 0 (floor + length part - 1) (reverse part)
    ∙ elim (cases_lt floor end) [
      | inl some ↦ ap (λ k. numbered_by (negsuc gap) k (every gap 0 (reverse part))) (omega (arith, size))
      | inr none ↦
          let empty : part ≡ [] = drop_all floor (take end ds) (omega (arith, length-take-le end ds within)) in
          ap (λ xs. numbered_by (negsuc gap) (floor + length part - 1 - 0) (every gap 0 (reverse xs))) empty
          ∙ sym (ap (λ xs. numbered_by (negsuc gap) (end - 1) (every gap 0 (reverse xs))) empty)
    ]

backward-numbered : (s : Slice) (gap : ℕ) (ds : List Document) → bound_after_or s.start (length ds) (length ds) ≤ length ds
    → numbered_by (negsuc gap) (bound_after_or s.start (length ds) (length ds) - 1) (backward s gap ds) ≡ backward s gap (numbered 0 ds)
backward-numbered s gap ds within =
    let len = length ds in
    let floor = bound_after_or s.end 0 len in
    let end = bound_after_or s.start len len in
    sym (ap (λ n. every gap 0 (reverse (drop (bound_after_or s.end 0 n) (take (bound_after_or s.start n n) (numbered 0 ds)))))
    (length-numbered 0 ds)
    ∙ ap (λ xs. every gap 0 (reverse xs)) (middle-numbered floor end ds)
    ∙ back-part floor end gap ds within)

-- ---- a slice

bound-within : (i : Option ℤ) (len : ℕ) → bound_or i 0 len ≤ len
bound-within None len = omega arith
bound-within (Some (pos i)) len = omega arith
bound-within (Some (negsuc i)) len = omega arith

after-within : (i : Option ℤ) (len : ℕ) → bound_after_or i len len ≤ len
after-within None len = omega arith
after-within (Some (pos i)) len = omega arith
after-within (Some (negsuc i)) len = omega arith

pub slice-numbered : (step : ℤ) (s : Slice) (ds : List Document) → length ds < 2 ^ 64
    → numbered_by step (first_by step s (length ds)) (by_step s step ds) ≡ by_step s step (numbered 0 ds)
slice-numbered (pos zero) s ds few = refl
slice-numbered (pos (suc gap)) s ds few = forward-numbered s gap ds few (bound-within s.start (length ds))
slice-numbered (negsuc gap) s ds few = backward-numbered s gap ds (after-within s.start (length ds))
