-- The words of a group, a block further.
use Rattle.std.proofs.Common.{◌≡◌, ◌∙◌, subst, ℕ, ◌+◌, ◌<◌, inl, inr, List, length, slice_index, slice_set, arith}
use Rattle.std.proofs.lemmas.Bool.{cases_lt}
use Rattle.std.proofs.lemmas.List.{get_or-set_same, get_or-set_other, length-set}

-- four lists of a word for each block of a group
pub record AreWords (ws xs ys zs : List ℕ) : Type 0 where
  pub first : length ws ≡ 8
  pub second : length xs ≡ 8
  pub third : length ys ≡ 8
  pub fourth : length zs ≡ 8

-- what is so of the first n words of each
abbrev pub Each : (ℕ → ℕ → ℕ → ℕ → ℕ → Type 0) → ℕ → (ws xs ys zs : List ℕ) → Type 0
Each P n ws xs ys zs = (k : ℕ) → k < n → P k (slice_index ws k) (slice_index xs k) (slice_index ys k) (slice_index zs k)

pub words-set : {ws xs ys zs : List ℕ} (n w x y z : ℕ) → AreWords ws xs ys zs
    → AreWords (slice_set ws n w) (slice_set xs n x) (slice_set ys n y) (slice_set zs n z)
words-set {ws} {xs} {ys} {zs} n w x y z h = record {
  first = length-set ws n w ∙ h.first;
  second = length-set xs n x ∙ h.second;
  third = length-set ys n y ∙ h.third;
  fourth = length-set zs n z ∙ h.fourth;
}

pub each-next : (P : ℕ → ℕ → ℕ → ℕ → ℕ → Type 0) {ws xs ys zs : List ℕ} (n w x y z : ℕ) → AreWords ws xs ys zs → n < 8
    → Each P n ws xs ys zs → P n w x y z → Each P (n + 1) (slice_set ws n w) (slice_set xs n x) (slice_set ys n y) (slice_set zs n z)
each-next P {ws} {xs} {ys} {zs} n w x y z h l all one = λ k to. elim (cases_lt k n) [
  | inl below ↦ rw (other ws w k below, other xs x k below, other ys y k below, other zs z k below) (all k below)
  | inr from ↦ (
      let same : n ≡ k = omega arith in
      subst (λ i. P i (slice_index (slice_set ws n w) i) (slice_index (slice_set xs n x) i)
      (slice_index (slice_set ys n y) i) (slice_index (slice_set zs n z) i)) same
      (rw (last ws w h.first, last xs x h.second, last ys y h.third, last zs z h.fourth) one)
      )
]
  where
    other : (us : List ℕ) (u k : ℕ) → k < n → slice_index (slice_set us n u) k ≡ slice_index us k
    other us u k below = get_or-set_other us n k u 0 (λ e. omega arith)

    last : (us : List ℕ) (u : ℕ) → length us ≡ 8 → slice_index (slice_set us n u) n ≡ u
    last us u e = get_or-set_same us n u 0 (omega arith)
