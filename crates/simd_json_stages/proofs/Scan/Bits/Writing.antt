-- Indexes of a word's bits, stored one after another.
use Rattle.std.proofs.Common.{◌≡◌, refl, sym, ◌∙◌, ap, ap₂, subst, ℕ, zero, suc, ◌+◌, ◌-◌, ◌%◌, ◌^◌, ◌<◌, ◌≤◌, min, inl, inr, List, []}
use Rattle.std.proofs.Common.{◌∷◌, ◌++◌, length, take, drop, slice_set, add-one, take-append-drop, arith}
use Rattle.std.proofs.lemmas.Bool.{cases_lt}
use Rattle.std.proofs.lemmas.List.{take_more_set, take-set, take-take, take_all, length-set, length-drop, append_assoc, append-nil}
use lib.Bits.{bit_and, and_zero_l, and_le_l}
use lib.Count.{ones, count_trailing_zeros}
use Rattle.std.proofs.lemmas.Nat.Bits.{bit_at-trailing_zeros}
use Rattle.std.specs.Int.{trailing_zeros}
use Rattle.std.proofs.Common.{w64}
use Rattle.simd_json_stages.specs.Words.{set_bits}
use Rattle.simd_json_stages.specs.Stored.{IsStored}
use Rattle.simd_json_stages.proofs.Scan.Bits.Places.{set_bits-first, set_bits-zero, length-ones}

-- the element after the first k
from-drop : (k : ℕ) (all : List ℕ) (x : ℕ) (rest : List ℕ) → drop k all ≡ x ∷ rest → (k < length all)
    × (take (suc k) all ≡ take k all ++ x ∷ []) × (drop (suc k) all ≡ rest)
from-drop zero [] x rest e = absurd (cc)
from-drop zero (y ∷ ys) x rest e = (omega arith, cc, cc)
from-drop (suc k) [] x rest e = absurd (cc)
from-drop (suc k) (y ∷ ys) x rest e = let h = from-drop k ys x rest e in (omega (arith, h.0), ap (λ l. y ∷ l) h.1, h.2)

past-end : (k : ℕ) (all : List ℕ) → drop k all ≡ [] → length all ≤ k
past-end zero [] e = omega arith
past-end zero (y ∷ ys) e = absurd (cc)
past-end (suc k) [] e = omega arith
past-end (suc k) (y ∷ ys) e = omega (arith, past-end k ys e)

all-dropped : (k : ℕ) (all : List ℕ) → length all ≤ k → drop k all ≡ []
all-dropped zero [] l = refl
all-dropped zero (y ∷ ys) l = absurd (omega arith)
all-dropped (suc k) [] l = refl
all-dropped (suc k) (y ∷ ys) l = all-dropped k ys (omega arith)

take-set-before : (xs : List ℕ) (m i v : ℕ) → m ≤ i → take m (slice_set xs i v) ≡ take m xs
take-set-before xs m i v l = sym (take-take m i (slice_set xs i v) l) ∙ ap (take m) (take-set xs i v) ∙ take-take m i xs l

module _ (before : List ℕ) (used : ℕ) (all : List ℕ) (k base : ℕ) (now : List ℕ) (left : ℕ)
    (h : IsStored before used all k base now left) (capacity : used + k < length now) (fits : base + 64 ≤ 2 ^ 32) where
  stored-none : (v rest : ℕ) → left ≡ 0 → rest ≡ 0 → IsStored before used all (k + 1) base (slice_set now (used + k) v) rest
  stored-none v rest e z =
      let none : drop k all ≡ [] = sym h.others ∙ ap (set_bits 64 base) e ∙ set_bits-zero 64 base in
      let few : length all ≤ k = past-end k all none in
      let same : min (k + 1) (length all) ≡ min k (length all) = omega arith in
      let whole : take k all ≡ take (k + 1) all = take_all k all few ∙ sym (take_all (k + 1) all (omega arith)) in
      record {
        len = length-set now (used + k) v ∙ h.len;
        small = omega arith;
        stored = ap (λ n. take (used + n) (slice_set now (used + k) v)) same
            ∙ take-set-before now (used + min k (length all)) (used + k) v (omega arith) ∙ h.stored ∙ ap (λ l. take used before ++ l) whole;
        others = ap (set_bits 64 base) z ∙ set_bits-zero 64 base ∙ sym (all-dropped (k + 1) all (omega arith));
      }

  stored-some : (v : ℕ) → 0 < left → v ≡ (base + trailing_zeros w64 left) % 2 ^ 32
      → IsStored before used all (k + 1) base (slice_set now (used + k) v) (bit_and left (left - 1))
  stored-some v some e =
      let place = (bit_at-trailing_zeros w64 left some h.small).0 in
      let is : v ≡ base + count_trailing_zeros 64 left = omega arith in
      let next = from-drop k all (base + count_trailing_zeros 64 left) (set_bits 64 base (bit_and left (left - 1)))
      (sym h.others ∙ set_bits-first 64 base left some h.small) in
      let within = next.0 in
      let here : min k (length all) ≡ k = omega arith in
      let there : min (k + 1) (length all) ≡ suc k = omega arith in
      let up : used + suc k ≡ used + k + 1 = omega arith in
      let so-far : take (used + k) now ≡ take used before ++ take k all = ap (λ n. take (used + n) now) (sym here) ∙ h.stored in
      record {
        len = length-set now (used + k) v ∙ h.len;
        small = let l = and_le_l left (left - 1) in omega (arith, h.small);
        stored = ap (λ n. take (used + n) (slice_set now (used + k) v)) there ∙ ap (λ n. take n (slice_set now (used + k) v)) up
            ∙ take_more_set now (used + k) v capacity
            ∙ ap₂ (λ l n. l ++ n ∷ []) so-far is ∙ append_assoc (take used before) (take k all)
            ((base + count_trailing_zeros 64 left) ∷ []) ∙ ap (λ l. take used before ++ l)
            (sym next.1 ∙ ap (λ n. take n all) (sym (add-one k)));
        others = sym next.2 ∙ ap (λ n. drop n all) (sym (add-one k));
      }

-- One more, where there is one: what is stored after the last has no meaning.
pub stored-next : (before : List ℕ) (used : ℕ) (all : List ℕ) (k base : ℕ) (now : List ℕ) (left : ℕ)
    → IsStored before used all k base now left → used + k < length now → base + 64 ≤ 2 ^ 32
    → (v less : ℕ) → v ≡ (base + trailing_zeros w64 left) % 2 ^ 32 → less ≡ (left + (2 ^ 64 - 1)) % 2 ^ 64
    → IsStored before used all (k + 1) base (slice_set now (used + k) v) (bit_and left less)
stored-next before used all k base now left h capacity fits v less e f = elim (cases_lt 0 left) [
  | inl some ↦
      let is : less ≡ left - 1 = let s = h.small in omega arith in
      subst (λ n. IsStored before used all (k + 1) base (slice_set now (used + k) v) (bit_and left n)) (sym is)
      (stored-some before used all k base now left h capacity fits v some e)
  | inr none ↦
      let z : left ≡ 0 = omega arith in
      stored-none before used all k base now left h capacity fits v (bit_and left less) z (ap (λ n. bit_and n less) z ∙ and_zero_l less)
]

pub stored-at : (before : List ℕ) (used : ℕ) (all : List ℕ) (k base : ℕ) (now : List ℕ) (left at : ℕ) → at ≡ used + k
    → IsStored before used all k base now left → at < length now → base + 64 ≤ 2 ^ 32
    → IsStored before used all (k + 1) base (slice_set now at ((base + trailing_zeros w64 left) % 2 ^ 32))
    (bit_and left ((left + (2 ^ 64 - 1)) % 2 ^ 64))
stored-at before used all k base now left at e h capacity fits =
    let next = stored-next before used all k base now left h (omega arith) fits ((base + trailing_zeros w64 left) % 2 ^ 32)
    ((left + (2 ^ 64 - 1)) % 2 ^ 64) refl refl in
    subst (λ i. IsStored before used all (k + 1) base (slice_set now i ((base + trailing_zeros w64 left) % 2 ^ 32))
    (bit_and left ((left + (2 ^ 64 - 1)) % 2 ^ 64))) (sym e) next

-- ---- from the first to the last

pub stored-first : (before : List ℕ) (used base bits : ℕ) → bits < 2 ^ 64 → IsStored before used (set_bits 64 base bits) 0 base before bits
stored-first before used base bits small = record {
  len = refl;
  small = small;
  stored = (let none : used + min 0 (length (set_bits 64 base bits)) ≡ used = omega arith in ap (λ n. take n before) none)
      ∙ sym (append-nil (take used before));
  others = refl;
}

-- what storing four of them promises
abbrev StoresFour : (at base : ℕ) (old : List ℕ) (bits : ℕ) (new : List ℕ) (left : ℕ) → Type 0
StoresFour at base old bits new left = (before : List ℕ) (used : ℕ) (all : List ℕ) (k : ℕ) → at ≡ used + k
    → IsStored before used all k base old bits → IsStored before used all (k + 4) base new left

pub stored-four : {before : List ℕ} {used base bits : ℕ} {new : List ℕ} {left : ℕ} → bits < 2 ^ 64
    → StoresFour used base before bits new left → IsStored before used (set_bits 64 base bits) 4 base new left
stored-four {before} {used} {base} {bits} small four = four before used (set_bits 64 base bits) 0 (omega arith)
    (stored-first before used base bits small)

pub four-more : {before : List ℕ} {used : ℕ} {all : List ℕ} {base : ℕ} {old : List ℕ} {bits : ℕ} {new : List ℕ} {left : ℕ} (k : ℕ)
    → StoresFour (used + k) base old bits new left → IsStored before used all k base old bits
    → IsStored before used all (k + 4) base new left
four-more {before} {used} {all} k four h = four before used all k refl h

pub stored-all : (before : List ℕ) (used base bits k : ℕ) (now : List ℕ) (left : ℕ) → bits < 2 ^ 64
    → IsStored before used (set_bits 64 base bits) k base now left → ones bits ≤ k
    → take (used + ones bits) now ≡ take used before ++ set_bits 64 base bits
stored-all before used base bits k now left small h l =
    let all = set_bits 64 base bits in
    let count : length all ≡ ones bits = length-ones 64 base bits small in
    let whole : min k (length all) ≡ ones bits = omega arith in
    ap (λ n. take (used + n) now) (sym whole) ∙ h.stored ∙ ap (λ l. take used before ++ l) (take_all k all (omega arith))

-- while bits are left
pub stored-more : (before : List ℕ) (used base bits k : ℕ) (now : List ℕ) (left : ℕ) → bits < 2 ^ 64
    → IsStored before used (set_bits 64 base bits) k base now left → 0 < left → k < ones bits
stored-more before used base bits k now left small h some =
    let next = from-drop k (set_bits 64 base bits) _ _ (sym h.others ∙ set_bits-first 64 base left some h.small) in
    omega (arith, next.0, length-ones 64 base bits small)

pub stored-end : (before : List ℕ) (used base bits k : ℕ) (now : List ℕ) (left : ℕ) → bits < 2 ^ 64
    → IsStored before used (set_bits 64 base bits) k base now left → left ≡ 0 → ones bits ≤ k
stored-end before used base bits k now left small h none =
    let end = past-end k (set_bits 64 base bits) (sym h.others ∙ ap (set_bits 64 base) none ∙ set_bits-zero 64 base) in
    omega (arith, end, length-ones 64 base bits small)

-- how many are left
pub ones-left : (before : List ℕ) (used base bits k : ℕ) (now : List ℕ) (left : ℕ) → bits < 2 ^ 64
    → IsStored before used (set_bits 64 base bits) k base now left → ones left ≡ ones bits - k
ones-left before used base bits k now left small h =
    let all = set_bits 64 base bits in
    let count = ap length h.others in
    omega (arith, length-ones 64 base bits small, length-ones 64 base left h.small, length-drop k all)

-- the first k, and then the others one by one
pub stored-both : (before : List ℕ) (used base bits k : ℕ) (now last : List ℕ) (left end : ℕ) → bits < 2 ^ 64
    → IsStored before used (set_bits 64 base bits) k base now left → k ≤ ones bits
    → take end last ≡ take (used + k) now ++ set_bits 64 base left → take end last ≡ take used before ++ set_bits 64 base bits
stored-both before used base bits k now last left end small h some written =
    let all = set_bits 64 base bits in
    let here : min k (length all) ≡ k = let count = length-ones 64 base bits small in omega arith in
    written ∙ ap₂ (λ xs ys. xs ++ ys) (ap (λ n. take (used + n) now) (sym here) ∙ h.stored) h.others
    ∙ append_assoc (take used before) (take k all) (drop k all) ∙ ap (λ l. take used before ++ l) (take-append-drop k all)
