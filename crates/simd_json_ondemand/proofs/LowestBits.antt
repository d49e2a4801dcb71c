-- A word by its lowest bit, and the words of lanes by their parts.
use Rattle.std.proofs.Common.{◌≡◌, sym, ◌∙◌, ap, ap₂, subst, ℕ, zero, suc, ◌+◌, ◌-◌, ◌*◌, ◌/◌, ◌%◌, ◌^◌, ◌<◌, ◌≤◌, inl, inr, Bool}
use Rattle.std.proofs.Common.{cond, List, [], ◌∷◌, length, map, take, drop, add-zero, pow-suc, arith}
use Rattle.std.proofs.lemmas.Bool.{cases_lt}
use Rattle.std.proofs.lemmas.Nat.{pow_pos, pow_below, pow-add, mul-le, and_comm, and_mask, and_block, and-not, mod_low}
use Rattle.std.proofs.lemmas.Simd.{mask_l-lt}
use Rattle.std.proofs.lemmas.List.{length-map, length-take-le}
use lib.Bits.{bit_and, and_step, and_self, and_zero_l}
use lib.Count.{count_trailing_zeros, under}
use lib.Lanes.{mask_l}

-- bit p is the lowest, and m are the bits above it
abbrev pub word : ℕ → ℕ → ℕ
word m p = (1 + 2 * m) * 2 ^ p

spread : (a P : ℕ) → (1 + 2 * a) * P ≡ P + 2 * (a * P)
spread a P = grind arith

pub word-some : (m p : ℕ) → 0 < word m p
word-some m p = let e = spread m (2 ^ p) in let some = pow_pos p in omega arith

-- ---- `x & x.wrapping_neg()`

both_odd : (m d : ℕ) → bit_and m d ≡ 0 → bit_and (1 + 2 * m) (1 + 2 * d) ≡ 1
both_odd m d none =
    let s : (1 + 2 * m) / 2 ≡ m = omega arith in
    let t : (1 + 2 * d) / 2 ≡ d = omega arith in
    let halves : bit_and ((1 + 2 * m) / 2) ((1 + 2 * d) / 2) ≡ 0 = ap₂ bit_and s t ∙ none in
    let step = and_step (1 + 2 * m) (1 + 2 * d) in
    omega arith

parts : (m d P : ℕ) → (m + 1 + d) * P ≡ m * P + P + d * P
parts m d P = grind arith

-- so many bits are above bit p
above : (m p q : ℕ) → p + q ≡ 63 → word m p < 2 ^ 64 → m < 2 ^ q
above m p q e small = elim (cases_lt m (2 ^ q)) [
  | inl l ↦ l
  | inr l ↦
      let P : ℕ = 2 ^ p in
      let whole : 2 ^ 63 ≡ P * 2 ^ q = ap (λ n. 2 ^ n) (sym e) ∙ pow-add 2 p q in
      let turned : P * 2 ^ q ≡ 2 ^ q * P = grind arith in
      let more : 2 ^ q * P ≤ m * P = mul-le (2 ^ q) P m P l (omega arith) in
      let s = spread m P in
      let some = pow_pos p in
      absurd (omega arith)
]

pub lowest : (m p : ℕ) → p < 64 → word m p < 2 ^ 64 → bit_and (word m p) (2 ^ 64 - word m p) ≡ 2 ^ p
lowest m p l small =
    let q : ℕ = 63 - p in
    let P : ℕ = 2 ^ p in
    let Q : ℕ = 2 ^ q in
    let e : p + q ≡ 63 = omega arith in
    let fits : m < Q = above m p q e small in
    let d : ℕ = Q - 1 - m in
    let sum : Q ≡ m + 1 + d = omega arith in
    let whole : 2 ^ 63 ≡ P * Q = ap (λ n. 2 ^ n) (sym e) ∙ pow-add 2 p q in
    let turned : P * Q ≡ (m + 1 + d) * P = ap (λ n. P * n) sum ∙ turn P (m + 1 + d) in
    let s = spread m P in
    let t = spread d P in
    let u = parts m d P in
    let other : 2 ^ 64 - word m p ≡ word d p + 0 = omega arith in
    let apart : bit_and m d ≡ 0 = (let c = and-not q m m fits fits in let a = and_self m in let k = and_comm m d in omega arith) in
    ap₂ bit_and (sym (add-zero (word m p))) other ∙ and_block p (1 + 2 * m) (1 + 2 * d) 0 0 (pow_pos p) (pow_pos p)
    ∙ ap₂ (λ x y. x * P + y) (both_odd m d apart) (and_zero_l 0) ∙ once P
  where
    turn : (a b : ℕ) → a * b ≡ b * a
    turn a b = grind arith

    once : (P : ℕ) → 1 * P + 0 ≡ P
    once P = omega arith

-- ---- `x & x.wrapping_sub(1)`

odd_and_even : (m : ℕ) → bit_and (1 + 2 * m) (2 * m) ≡ 2 * m
odd_and_even m =
    let s : (1 + 2 * m) / 2 ≡ m = omega arith in
    let t : (2 * m) / 2 ≡ m = omega arith in
    let halves : bit_and ((1 + 2 * m) / 2) ((2 * m) / 2) ≡ m = ap₂ bit_and s t ∙ and_self m in
    let step = and_step (1 + 2 * m) (2 * m) in
    omega arith

pub cleared : (m p : ℕ) → bit_and (word m p) (word m p - 1) ≡ m * 2 ^ suc p
cleared m p =
    let P : ℕ = 2 ^ p in
    let some : 0 < P = pow_pos p in
    let s = spread m P in
    let assoc = doubled m P in
    let less : word m p - 1 ≡ 2 * m * P + (P - 1) = omega arith in
    ap₂ bit_and (sym (add-zero (word m p))) less ∙ and_block p (1 + 2 * m) (2 * m) 0 (P - 1) some (omega arith)
    ∙ ap₂ (λ x y. x * P + y) (odd_and_even m) (and_zero_l (P - 1)) ∙ last m P ∙ ap (λ n. m * n) (sym (pow-suc 2 p))
  where
    doubled : (m P : ℕ) → 2 * m * P ≡ 2 * (m * P)
    doubled m P = grind arith

    last : (m P : ℕ) → 2 * m * P + 0 ≡ m * (P * 2)
    last m P = grind arith

-- ---- `x.trailing_zeros()`

pub trailing : (n p m : ℕ) → p < n → count_trailing_zeros n (word m p) ≡ p
unfolding count_trailing_zeros
trailing zero p m l = absurd (omega arith)
trailing (suc n) zero m l =
    let odd : ((1 + 2 * m) * 1) % 2 ≡ 1 = omega arith in
    ap (λ r. under r (count_trailing_zeros n (word m 0 / 2))) odd
trailing (suc n) (suc p) m l =
    let step : word m (suc p) ≡ 2 * word m p = ap (λ k. (1 + 2 * m) * k) (pow-suc 2 p) ∙ turn (1 + 2 * m) (2 ^ p) in
    let even : word m (suc p) % 2 ≡ 0 = omega arith in
    let half : word m (suc p) / 2 ≡ word m p = omega arith in
    ap₂ (λ r h. under r (count_trailing_zeros n h)) even half ∙ ap suc (trailing n p m (omega arith))
  where
    turn : (a P : ℕ) → a * (P * 2) ≡ 2 * (a * P)
    turn a P = grind arith

-- ---- lanes before a bit, and from it on

pub split : (f : ℕ → Bool) (p : ℕ) (cs : List ℕ) → p ≤ length cs
    → mask_l (map f cs) ≡ mask_l (map f (drop p cs)) * 2 ^ p + mask_l (map f (take p cs))
split f zero cs l = omega arith
split f (suc p) [] l = absurd (omega arith)
split f (suc p) (c ∷ cs) l =
    let rest = split f p cs (omega arith) in
    step (cond (f c) 1 0) (mask_l (map f cs)) (mask_l (map f (drop p cs))) (mask_l (map f (take p cs))) (2 ^ p) rest
    ∙ ap (λ n. mask_l (map f (drop p cs)) * n + (cond (f c) 1 0 + 2 * mask_l (map f (take p cs)))) (sym (pow-suc 2 p))
  where
    step : (t M D L P : ℕ) → M ≡ D * P + L → t + 2 * M ≡ D * (P * 2) + (t + 2 * L)
    step t M D L P e = ap (λ n. t + 2 * n) e ∙ spread_out t D L P
      where
        spread_out : (t D L P : ℕ) → t + 2 * (D * P + L) ≡ D * (P * 2) + (t + 2 * L)
        spread_out t D L P = grind arith

-- `x & (bit - 1)`
pub before : (f : ℕ → Bool) (p : ℕ) (cs : List ℕ) → p ≤ length cs → bit_and (mask_l (map f cs)) (2 ^ p - 1) ≡ mask_l (map f (take p cs))
before f p cs l =
    let size : length (map f (take p cs)) ≡ p = length-map (take p cs) f ∙ length-take-le p cs l in
    let small : mask_l (map f (take p cs)) < 2 ^ p = subst (λ n. mask_l (map f (take p cs)) < 2 ^ n) size (mask_l-lt (map f (take p cs))) in
    and_mask (mask_l (map f cs)) p ∙ ap (λ n. n % 2 ^ p) (split f p cs l) ∙ mod_low (mask_l (map f (drop p cs))) p _ small

-- the bits before the lowest, as they are computed
pub bits_before : (m p rest neg : ℕ) → rest ≡ word m p → p < 64 → rest < 2 ^ 64 → (neg + rest) % 2 ^ 64 ≡ 0 → neg < 2 ^ 64
    → (bit_and rest neg + (2 ^ 64 - 1)) % 2 ^ 64 ≡ 2 ^ p - 1
bits_before m p rest neg is l small e below =
    let some : 0 < rest = subst (λ n. 0 < n) (sym is) (word-some m p) in
    let other : neg ≡ 2 ^ 64 - rest = omega arith in
    let bit : bit_and rest neg ≡ 2 ^ p = ap (bit_and rest) other ∙ ap (λ n. bit_and n (2 ^ 64 - n)) is
    ∙ lowest m p l (subst (λ n. n < 2 ^ 64) is small) in
    let one : 0 < 2 ^ p = pow_pos p in
    let fits : 2 ^ p < 2 ^ 64 = pow_below p 64 l in
    omega arith
