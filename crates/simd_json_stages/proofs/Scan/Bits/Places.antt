-- The places of a word's set bits, as a list: the lowest first, then those of the word without it.
use Rattle.std.proofs.Common.{◌≡◌, refl, sym, ◌∙◌, ap, ap₂, ℕ, zero, suc, ◌+◌, ◌-◌, ◌*◌, ◌/◌, ◌%◌, ◌^◌, ◌<◌, ◌≤◌, ◌==◌, min, [], ◌∷◌}
use Rattle.std.proofs.Common.{length, map, filter, Bool, true, false, inl, inr, if◌then◌else◌, add-zero, arith, pow-suc}
use Rattle.std.specs.List.{range_with_len}
use Rattle.std.proofs.lemmas.Bool.{cases_lt}
use lib.Bits.{bit_and, and_step, and_self}
use lib.Count.{ones, ones_step, ones-le, under, count_trailing_zeros}
use Rattle.simd_json_stages.specs.Words.{is_set, set_bits}
use Rattle.simd_json_stages.proofs.Scan.Bits.Operations.{is_set-half, is_set-lowest, is_set-zero}

-- ---- a filter over a range, seen from another place

moved : (p q : ℕ → Bool) (base a n : ℕ) → ((i : ℕ) → a ≤ i → i < a + n → q i ≡ p (base + i))
    → map (λ i. base + i) (filter q (range_with_len a n)) ≡ filter p (range_with_len (base + a) n)
moved p q base a zero same = refl
moved p q base a (suc n) same =
    let up : base + (a + 1) ≡ base + a + 1 = omega arith in
    let rest = moved p q base (a + 1) n (λ i l m. same i (omega arith) (omega arith)) ∙ ap (λ k. filter p (range_with_len k n)) up in
    first (q a) (p (base + a)) (same a (omega arith) (omega arith)) rest
  where
    first : (s t : Bool) → s ≡ t → map (λ i. base + i) (filter q (range_with_len (a + 1) n)) ≡ filter p (range_with_len (base + a + 1) n)
        → map (λ i. base + i) (if s then a ∷ filter q (range_with_len (a + 1) n) else filter q (range_with_len (a + 1) n))
        ≡ (if t then (base + a) ∷ filter p (range_with_len (base + a + 1) n) else filter p (range_with_len (base + a + 1) n))
    first true true e r = ap (λ l. (base + a) ∷ l) r
    first true false e r = absurd (cc)
    first false true e r = absurd (cc)
    first false false e r = r

-- The places of the bits are the indexes that pass a test, where a bit is set just where the test passes.
pub set_bits-filter : (p : ℕ → Bool) (n base x : ℕ) → ((i : ℕ) → i < n → is_set x i ≡ p (base + i))
    → set_bits n base x ≡ filter p (range_with_len base n)
unfolding set_bits
set_bits-filter p n base x same = moved p (is_set x) base 0 n (λ i l m. same i (omega arith))
    ∙ ap (λ k. filter p (range_with_len k n)) (add-zero base)

none : (n : ℕ) (a : ℕ) → filter (λ k. false) (range_with_len a n) ≡ []
none zero a = refl
none (suc n) a = none n (a + 1)

pub set_bits-zero : (n base : ℕ) → set_bits n base 0 ≡ []
set_bits-zero n base = set_bits-filter (λ k. false) n base 0 (λ i l. is_set-zero i) ∙ none n base

-- ---- by halves

pub set_bits-halves : (n base x : ℕ) → set_bits (suc n) base x ≡
    (if x % 2 == 1 then base ∷ set_bits n (base + 1) (x / 2) else set_bits n (base + 1) (x / 2))
unfolding set_bits
set_bits-halves n base x =
    let rest : map (λ i. base + i) (filter (is_set x) (range_with_len (0 + 1) n)) ≡ map (λ i. base + 1 + i)
    (filter (is_set (x / 2)) (range_with_len 0 n)) =
    moved (λ j. is_set x (j - base)) (is_set x) base (0 + 1) n (λ i l m. let e : i ≡ base + i - base = omega arith in ap (is_set x) e)
    ∙ ap (λ k. filter (λ j. is_set x (j - base)) (range_with_len k n)) (let e : base + (0 + 1) ≡ base + 1 + 0 = omega arith in e)
    ∙ sym (moved (λ j. is_set x (j - base)) (is_set (x / 2)) (base + 1) 0 n
    (λ i l m. let e : suc i ≡ base + 1 + i - base = omega arith in sym (is_set-half x i) ∙ ap (is_set x) e)) in
    first (is_set x 0) (x % 2 == 1) (is_set-lowest x) rest
  where
    first : (s t : Bool) → s ≡ t → map (λ i. base + i) (filter (is_set x) (range_with_len (0 + 1) n)) ≡ map (λ i. base + 1 + i)
        (filter (is_set (x / 2)) (range_with_len 0 n))
        → map (λ i. base + i) (if s then 0 ∷ filter (is_set x) (range_with_len (0 + 1) n) else filter (is_set x) (range_with_len (0 + 1) n))
        ≡ (if t then base ∷ map (λ i. base + 1 + i) (filter (is_set (x / 2)) (range_with_len 0 n)) else map (λ i. base + 1 + i)
        (filter (is_set (x / 2)) (range_with_len 0 n)))
    first true true e r = ap₂ (λ b l. b ∷ l) (add-zero base) r
    first true false e r = absurd (cc)
    first false true e r = absurd (cc)
    first false false e r = r

-- ---- the lowest

odd-first : (n base x : ℕ) → x % 2 ≡ 1 → set_bits (suc n) base x ≡ base ∷ set_bits n (base + 1) (x / 2)
odd-first n base x odd = set_bits-halves n base x ∙ ap (λ r. if r == 1 then base ∷ set_bits n (base + 1) (x / 2) else set_bits n
    (base + 1) (x / 2)) odd

even-first : (n base x : ℕ) → x % 2 ≡ 0 → set_bits (suc n) base x ≡ set_bits n (base + 1) (x / 2)
even-first n base x even = set_bits-halves n base x ∙ ap (λ r. if r == 1 then base ∷ set_bits n (base + 1) (x / 2) else set_bits n
    (base + 1) (x / 2)) even

trailing-odd : (n x : ℕ) → x % 2 ≡ 1 → count_trailing_zeros (suc n) x ≡ 0
unfolding count_trailing_zeros
trailing-odd n x odd = ap (λ d. under d (count_trailing_zeros n (x / 2))) odd

trailing-even : (n x : ℕ) → x % 2 ≡ 0 → count_trailing_zeros (suc n) x ≡ suc (count_trailing_zeros n (x / 2))
unfolding count_trailing_zeros
trailing-even n x even = ap (λ d. under d (count_trailing_zeros n (x / 2))) even

-- `x & (x - 1)` is x without its lowest bit.
abbrev less : ℕ → ℕ
less x = bit_and x (x - 1)

abbrev IsFirst : ℕ → ℕ → ℕ → Type 0
IsFirst n base x = set_bits n base x ≡ (base + count_trailing_zeros n x) ∷ set_bits n base (less x)

first-even : (n base x : ℕ) → 0 < x → x % 2 ≡ 0 → IsFirst n (base + 1) (x / 2) → IsFirst (suc n) base x
first-even n base x some even later =
    let lower : (x - 1) / 2 ≡ x / 2 - 1 = omega arith in
    let step : less x ≡ bit_and (x / 2) ((x - 1) / 2) * 2 + min (x % 2) ((x - 1) % 2) = and_step x (x - 1) in
    let same : bit_and (x / 2) ((x - 1) / 2) ≡ less (x / 2) = ap (bit_and (x / 2)) lower in
    let half : less x / 2 ≡ less (x / 2) = omega arith in
    let still : less x % 2 ≡ 0 = omega arith in
    let up : base + 1 + count_trailing_zeros n (x / 2) ≡ base + count_trailing_zeros (suc n) x = let t = trailing-even n x even in
    omega arith in
    even-first n base x even ∙ later ∙ ap₂ (λ b l. b ∷ l) up (ap (set_bits n (base + 1)) (sym half)
    ∙ sym (even-first n base (less x) still))

first-odd : (n base x : ℕ) → x % 2 ≡ 1 → IsFirst (suc n) base x
first-odd n base x odd =
    let lower : (x - 1) / 2 ≡ x / 2 = omega arith in
    let step : less x ≡ bit_and (x / 2) ((x - 1) / 2) * 2 + min (x % 2) ((x - 1) % 2) = and_step x (x - 1) in
    let same : bit_and (x / 2) ((x - 1) / 2) ≡ x / 2 = ap (bit_and (x / 2)) lower ∙ and_self (x / 2) in
    let half : less x / 2 ≡ x / 2 = omega arith in
    let none : less x % 2 ≡ 0 = omega arith in
    let here : base ≡ base + count_trailing_zeros (suc n) x = let t = trailing-odd n x odd in omega arith in
    odd-first n base x odd ∙ ap₂ (λ b l. b ∷ l) here (ap (set_bits n (base + 1)) (sym half) ∙ sym (even-first n base (less x) none))

pub set_bits-first : (n base x : ℕ) → 0 < x → x < 2 ^ n → set_bits n base x ≡ (base + count_trailing_zeros n x) ∷ set_bits n base
    (bit_and x (x - 1))
set_bits-first zero base x some small = absurd (omega arith)
set_bits-first (suc n) base x some small = elim (cases_lt 0 (x % 2)) [
  | inl odd ↦ first-odd n base x (omega arith)
  | inr even ↦ first-even n base x some (omega arith) (set_bits-first n (base + 1) (x / 2) (omega arith) (omega (arith, pow-suc 2 n)))
]

-- ---- how many

pub length-ones : (n base x : ℕ) → x < 2 ^ n → length (set_bits n base x) ≡ ones x
length-ones zero base x small =
    let z : x ≡ 0 = omega arith in
    ap length (ap (set_bits 0 base) z ∙ set_bits-zero 0 base) ∙ omega (arith, ones-le 0 x small)
length-ones (suc n) base x small =
    let rest = length-ones n (base + 1) (x / 2) (omega (arith, pow-suc 2 n)) in
    let step = ones_step x in
    elim (cases_lt 0 (x % 2)) [
      | inl l ↦ let odd : x % 2 ≡ 1 = omega arith in ap length (odd-first n base x odd) ∙ omega arith
      | inr l ↦ let even : x % 2 ≡ 0 = omega arith in ap length (even-first n base x even) ∙ omega arith
    ]
