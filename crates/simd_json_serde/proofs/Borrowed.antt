-- A string where the input has it.
use Rattle.std.proofs.Common.{◌≡◌, ◌∙◌, ◌≤◌, ◌<◌, ◌⊎◌, ◌+◌, ◌∷◌, ap, sym, refl, eq-eqb, ℕ, List, [], length, Bor, Option, Some, None, true}
use Rattle.std.proofs.Common.{false, ◌&&◌, nat_eq, slice_range, IsSome, MatchOption}
use Rattle.std.specs.Cmp.Lexicographic.{pointwise}
use Rattle.std.specs.Option.{option_eq}

equal-bytes : (xs : List ℕ) → pointwise nat_eq xs xs ≡ true
equal-bytes [] = refl
equal-bytes (x ∷ xs) = ap (λ b. b && pointwise nat_eq xs xs) (eq-eqb x x refl) ∙ equal-bytes xs

-- the part that has it is not told apart from it
pub same-part : (o : Option (Bor (List ℕ))) (x : Bor (List ℕ)) (input : List ℕ) (start end : ℕ)
    → MatchOption o ((end < start) ⊎ (length input < end)) (λ y. (start ≤ end) × (end ≤ length input)
    × (y.now ≡ slice_range input start end) × (length y.now + start ≡ end))
    → ((start ≤ end) × (end ≤ length input) → IsSome o) → start ≤ end → end ≤ length input → slice_range input start end ≡ x.now
    → false ≡ option_eq (λ (y z : Bor (List ℕ)). pointwise nat_eq y.now z.now) o (Some x) → ⊥
same-part None x input start end found there low high same other = (let clash : false ≡ true = there (low, high) in cc)
same-part (Some y) x input start end found there low high same other =
    let e : y.now ≡ x.now = found.2 ∙ same in
    let equal : pointwise nat_eq y.now x.now ≡ true = ap (λ l. pointwise nat_eq y.now l) (sym e) ∙ equal-bytes y.now in
    let clash : false ≡ true = other ∙ equal in
    cc
