-- Elements that are passed over.
use Rattle.std.proofs.Common.{◌≡◌, ◌∙◌, ap, sym, refl, ◌<◌, ◌≤◌, ◌+◌, ◌-◌, ℕ, zero, suc, min, List, [], ◌∷◌, length, drop, take, arith}
use Rattle.std.proofs.Common.{inl, inr}
use Rattle.std.proofs.lemmas.Bool.{cases_lt}
use Rattle.std.proofs.lemmas.List.{drop_all, drop-take, length-take}
use Rattle.simd_json_parts.specs.Document.{Document}
use Rattle.simd_json_path.specs.Slices.{every, bound_or, forward}
use Rattle.simd_json_query.specs.declared.query.Slice.{Slice}

pub every-skip : {A : Type 0} (gap skip : ℕ) (xs : List A) → every gap skip xs ≡ every gap 0 (drop skip xs)
every-skip gap zero [] = refl
every-skip gap (suc skip) [] = refl
every-skip gap zero (x ∷ xs) = refl
every-skip gap (suc skip) (x ∷ xs) = every-skip gap skip xs

drop-front : {A : Type 0} (skip gap span : ℕ) (xs : List A) → skip ≡ min gap span
    → drop gap (take span xs) ≡ take (span - skip) (drop skip xs)
drop-front skip gap span xs is = elim (cases_lt span gap) [
  | inl less ↦
      let all : skip ≡ span = omega arith in
      let few : length (take span xs) ≤ gap = omega (arith, length-take span xs) in
      let none : span - skip ≡ 0 = omega arith in
      drop_all gap (take span xs) few ∙ ap (λ n. take n (drop skip xs)) (sym none)
  | inr more ↦
      let same : gap ≡ skip = omega arith in
      let parts : span ≡ skip + (span - skip) = omega arith in
      ap (λ n. drop n (take span xs)) same ∙ ap (λ n. drop skip (take n xs)) parts ∙ drop-take skip (span - skip) xs
]

-- the others, after the first one
pub every-more : {A : Type 0} (gap skip span : ℕ) (x : A) (xs ys : List A) → 0 < span → skip ≡ min gap (span - 1)
    → xs ≡ x ∷ ys
    → every gap 0 (take span xs) ≡ x ∷ every gap 0 (take (span - 1 - skip) (drop skip ys))
every-more gap skip zero x xs ys some least is = absurd (omega arith)
every-more gap skip (suc span) x xs ys some least is =
    ap (λ zs. every gap 0 (take (suc span) zs)) is
    ∙ ap (λ zs. x ∷ zs) (every-skip gap gap (take span ys))
    ∙ ap (λ zs. x ∷ every gap 0 zs) (drop-front skip gap span ys (omega arith))
    ∙ ap (λ n. x ∷ every gap 0 (take n (drop skip ys))) (omega arith)

drop-span : {A : Type 0} (from to : ℕ) (xs : List A) → drop from (take to xs) ≡ take (to - from) (drop from xs)
drop-span from to xs = elim (cases_lt to from) [
  | inl less ↦
      let few : length (take to xs) ≤ from = omega (arith, length-take to xs) in
      let none : to - from ≡ 0 = omega arith in
      drop_all from (take to xs) few ∙ ap (λ n. take n (drop from xs)) (sym none)
  | inr more ↦
      let parts : to ≡ from + (to - from) = omega arith in
      ap (λ n. drop from (take n xs)) parts ∙ drop-take from (to - from) xs
]

pub slice-every : (s : Slice) (from to gap : ℕ) (xs rest : List Document)
    → from ≡ bound_or s.start 0 (length xs) → to ≡ bound_or s.end (length xs) (length xs) → rest ≡ drop from xs
    → every gap 0 (take (to - from) rest) ≡ forward s gap xs
slice-every s from to gap xs rest first last passed =
    ap (λ ys. every gap 0 (take (to - from) ys)) passed
    ∙ ap (every gap 0) (sym (drop-span from to xs))
    ∙ ap (λ n. every gap 0 (drop n (take to xs))) first
    ∙ ap (λ n. every gap 0 (drop (bound_or s.start 0 (length xs)) (take n xs))) last
