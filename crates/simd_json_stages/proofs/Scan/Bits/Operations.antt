-- One bit of what each operation on words gives.
use Rattle.std.proofs.Common.{◌≡◌, refl, sym, ◌∙◌, ap, ℕ, suc, ◌+◌, ◌-◌, ◌*◌, ◌/◌, ◌%◌, ◌^◌, ◌<◌, ◌≤◌, ◌==◌, min, max, Bool, true}
use Rattle.std.proofs.Common.{false, not, ◌&&◌, ◌||◌, cond, List, get_or, arith, w64, pow_pos}
use Rattle.std.specs.Int.{bit_at}
use Rattle.std.proofs.lemmas.Nat.Bits.{bit_at_and, bit_at_or, bit_at_xor, bit_at_not, bit_at_ones, bit_at_lowest, bit_at-suc, bit_at-zero}
use Rattle.std.proofs.lemmas.Nat.Bits.{bit_at-lt, bit_at_above, bit_at_cat_low, bit_at_cat_high}
use Rattle.std.proofs.lemmas.Simd.{bit_mask_l}
use lib.Bits.{bit_and, bit_or, bit_xor}
use lib.Lanes.{mask_l}
use mir.Val.{bool_byte}
use Rattle.simd_json_stages.specs.Words.{is_set, xor}
use Rattle.simd_json_stages.proofs.Scan.Bits.Computed.{equal-bits}

-- ---- bits as numbers

both : (a b : ℕ) → a < 2 → b < 2 → (min a b == 1) ≡ ((a == 1) && (b == 1))
both = equal-bits (λ a b. min a b == 1) (λ a b. (a == 1) && (b == 1)) tt

either : (a b : ℕ) → a < 2 → b < 2 → (max a b == 1) ≡ ((a == 1) || (b == 1))
either = equal-bits (λ a b. max a b == 1) (λ a b. (a == 1) || (b == 1)) tt

one_of : (a b : ℕ) → a < 2 → b < 2 → ((a + b) % 2 == 1) ≡ xor (a == 1) (b == 1)
one_of = equal-bits (λ a b. (a + b) % 2 == 1) (λ a b. xor (a == 1) (b == 1)) tt

other : (a : ℕ) → a < 2 → (1 - a == 1) ≡ not (a == 1)
other a l = equal-bits (λ a b. 1 - a == 1) (λ a b. not (a == 1)) tt a a l l

-- ---- and, or, xor, not

pub is_set-and : (x y i : ℕ) → is_set (bit_and x y) i ≡ (is_set x i && is_set y i)
unfolding is_set
is_set-and x y i = ap (λ n. n == 1) (bit_at_and x y i) ∙ both (bit_at x i) (bit_at y i) (bit_at-lt x i) (bit_at-lt y i)

pub is_set-or : (x y i : ℕ) → is_set (bit_or x y) i ≡ (is_set x i || is_set y i)
unfolding is_set
is_set-or x y i = ap (λ n. n == 1) (bit_at_or x y i) ∙ either (bit_at x i) (bit_at y i) (bit_at-lt x i) (bit_at-lt y i)

pub is_set-xor : (x y i : ℕ) → is_set (bit_xor x y) i ≡ xor (is_set x i) (is_set y i)
unfolding is_set
is_set-xor x y i = ap (λ n. n == 1) (bit_at_xor x y i) ∙ one_of (bit_at x i) (bit_at y i) (bit_at-lt x i) (bit_at-lt y i)

-- `!x`
abbrev pub flip : ℕ → ℕ
flip x = 2 ^ 64 - 1 - x

pub is_set-flip : (x i : ℕ) → x < 2 ^ 64 → i < 64 → is_set (flip x) i ≡ not (is_set x i)
unfolding is_set
is_set-flip x i small l = ap (λ n. n == 1) (bit_at_not w64 x i small l) ∙ other (bit_at x i) (bit_at-lt x i)

-- ---- shifts

-- `x << k`
abbrev pub shl : ℕ → ℕ → ℕ
shl k x = x * 2 ^ k % 2 ^ 64

pub is_set-mod : (x i : ℕ) → i < 64 → is_set (x % 2 ^ 64) i ≡ is_set x i
unfolding is_set
is_set-mod x i l =
    let parts : x / 2 ^ 64 * 2 ^ 64 + x % 2 ^ 64 ≡ x = omega arith in
    ap (λ n. n == 1) (sym (bit_at_cat_low (x / 2 ^ 64) 64 (x % 2 ^ 64) i l) ∙ ap (λ n. bit_at n i) parts)

pub is_set-shl_low : (k i x : ℕ) → i < k → i < 64 → is_set (shl k x) i ≡ false
unfolding is_set
is_set-shl_low k i x l m =
    let e : x * 2 ^ k ≡ x * 2 ^ k + 0 = omega arith in
    is_set-mod (x * 2 ^ k) i m ∙ ap (λ n. n == 1) (ap (λ n. bit_at n i) e ∙ bit_at_cat_low x k 0 i l ∙ bit_at-zero i)

pub is_set-shl_high : (k j x : ℕ) → k + j < 64 → is_set (shl k x) (k + j) ≡ is_set x j
unfolding is_set
is_set-shl_high k j x l =
    let e : x * 2 ^ k ≡ x * 2 ^ k + 0 = omega arith in
    let there : k + j - k ≡ j = omega arith in
    is_set-mod (x * 2 ^ k) (k + j) l ∙ ap (λ n. n == 1) (ap (λ n. bit_at n (k + j)) e
    ∙ bit_at_cat_high x k 0 (k + j) (pow_pos k) (omega arith) ∙ ap (bit_at x) there)

pub is_set-shl_one : (i x : ℕ) → suc i < 64 → is_set (shl 1 x) (suc i) ≡ is_set x i
is_set-shl_one i x l = let e : suc i ≡ 1 + i = omega arith in ap (is_set (shl 1 x)) e ∙ is_set-shl_high 1 i x (omega arith)

-- the bits of the upper half
pub is_set-half : (x i : ℕ) → is_set x (suc i) ≡ is_set (x / 2) i
unfolding is_set
is_set-half x i = ap (λ n. n == 1) (bit_at-suc x i)

pub is_set-lowest : (x : ℕ) → is_set x 0 ≡ (x % 2 == 1)
unfolding is_set
is_set-lowest x = ap (λ n. n == 1) (bit_at_lowest x)

-- `x >> 63`
pub top_bit : (x : ℕ) → x < 2 ^ 64 → (x / 2 ^ 63 == 1) ≡ is_set x 63
unfolding is_set
top_bit x small = let e : x / 2 ^ 63 ≡ x / 2 ^ 63 % 2 = omega arith in ap (λ n. n == 1) e

-- ---- words that are made of one boolean

pub byte_lt : (c : Bool) → bool_byte c < 2 ^ 64
byte_lt true = omega arith
byte_lt false = omega arith

pub is_set-zero : (i : ℕ) → is_set 0 i ≡ false
unfolding is_set
is_set-zero i = ap (λ n. n == 1) (bit_at-zero i)

pub is_set-byte_zero : (c : Bool) → is_set (bool_byte c) 0 ≡ c
unfolding is_set
is_set-byte_zero true = refl
is_set-byte_zero false = refl

pub is_set-byte_suc : (c : Bool) (i : ℕ) → is_set (bool_byte c) (suc i) ≡ false
is_set-byte_suc true i = is_set-half 1 i ∙ is_set-zero i
is_set-byte_suc false i = is_set-zero (suc i)

-- `0u64.wrapping_sub(c as u64)`: no bit, or each
abbrev pub spread : Bool → ℕ
spread c = (0 + (2 ^ 64 - bool_byte c)) % 2 ^ 64

pub is_set-spread : (c : Bool) (i : ℕ) → i < 64 → is_set (spread c) i ≡ c
unfolding is_set
is_set-spread true i l = ap (λ n. n == 1) (bit_at_ones 64 i l)
is_set-spread false i l = ap (λ n. n == 1) (bit_at-zero i)

-- ---- a word from a mask of lanes

pub is_set-mask_l : (ms : List Bool) (i : ℕ) → is_set (mask_l ms) i ≡ get_or ms i false
unfolding is_set
is_set-mask_l ms i = ap (λ n. n == 1) (bit_mask_l ms i) ∙ answer (get_or ms i false)
  where
    answer : (t : Bool) → (cond t 1 0 == 1) ≡ t
    answer true = refl
    answer false = refl

pub is_set-above : (x k i : ℕ) → x < 2 ^ k → k ≤ i → is_set x i ≡ false
unfolding is_set
is_set-above x k i l m = ap (λ n. n == 1) (bit_at_above x k i l m)
