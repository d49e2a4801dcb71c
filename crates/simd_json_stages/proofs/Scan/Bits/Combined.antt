-- Words by what their bits are: each operation on words is one on bits.
use Rattle.std.proofs.Common.{◌≡◌, ℕ, zero, suc, ◌+◌, ◌-◌, ◌*◌, ◌/◌, ◌%◌, ◌^◌, ◌<◌, Bool, true, false, not, ◌&&◌, ◌||◌, ◌==◌, refl, sym}
use Rattle.std.proofs.Common.{ap, ap₂, ◌∙◌, arith, mod-lt, pow_pos}
use Rattle.std.proofs.Math.Bool.{or-false}
use lib.Bits.{bit_and, bit_or, bit_xor, and_le_l, or_lt, xor_lt}
use mir.Val.{bool_byte}
use Rattle.simd_json_stages.specs.Words.{is_set, HasBits, xor}
use Rattle.simd_json_stages.specs.Blocks.{all_bits}
use Rattle.simd_json_stages.proofs.Scan.Bits.Operations.{is_set-and, is_set-or, is_set-xor, flip, is_set-flip, shl, is_set-shl_one}
use Rattle.simd_json_stages.proofs.Scan.Bits.Operations.{is_set-shl_low, byte_lt, is_set-byte_zero, is_set-byte_suc, spread, is_set-spread}
use Rattle.simd_json_stages.proofs.Scan.Bits.Operations.{top_bit}

pub bits-and : {x y : ℕ} {p q : ℕ → Bool} → HasBits x p → HasBits y q → HasBits (bit_and x y) (λ i. p i && q i)
bits-and {x} {y} h k = record {
  small = let l = and_le_l x y in omega (arith, h.small);
  bits = λ i l. is_set-and x y i ∙ ap₂ (λ s t. s && t) (h.bits i l) (k.bits i l);
}

pub bits-or : {x y : ℕ} {p q : ℕ → Bool} → HasBits x p → HasBits y q → HasBits (bit_or x y) (λ i. p i || q i)
bits-or {x} {y} h k = record {
  small = or_lt 64 x y h.small k.small;
  bits = λ i l. is_set-or x y i ∙ ap₂ (λ s t. s || t) (h.bits i l) (k.bits i l);
}

pub bits-xor : {x y : ℕ} {p q : ℕ → Bool} → HasBits x p → HasBits y q → HasBits (bit_xor x y) (λ i. xor (p i) (q i))
bits-xor {x} {y} h k = record {
  small = xor_lt 64 x y h.small k.small;
  bits = λ i l. is_set-xor x y i ∙ ap₂ xor (h.bits i l) (k.bits i l);
}

pub bits-not : {x : ℕ} {p : ℕ → Bool} → HasBits x p → HasBits (flip x) (λ i. not (p i))
bits-not {x} h = record {
  small = let s = h.small in omega arith;
  bits = λ i l. is_set-flip x i h.small l ∙ ap not (h.bits i l);
}

pub bits-own : {x : ℕ} → x < 2 ^ 64 → HasBits x (is_set x)
bits-own small = record { small = small; bits = λ i l. refl }

pub bits-same : {x : ℕ} {p q : ℕ → Bool} → HasBits x p → ((i : ℕ) → i < 64 → p i ≡ q i) → HasBits x q
bits-same h e = record { small = h.small; bits = λ i l. h.bits i l ∙ e i l }

-- a shift by one, with c put in
abbrev pub after : Bool → (ℕ → Bool) → ℕ → Bool
after c p zero = c
after c p (suc i) = p i

pub bits-shl : {x : ℕ} {p : ℕ → Bool} → HasBits x p → HasBits (shl 1 x) (after false p)
bits-shl {x} {p} h = record { small = mod-lt (x * 2) (pow_pos 64); bits = go }
  where
    go : (i : ℕ) → i < 64 → is_set (shl 1 x) i ≡ after false p i
    go zero l = is_set-shl_low 1 0 x (omega arith) l
    go (suc i) l = is_set-shl_one i x l ∙ h.bits i (omega arith)

pub bits-byte : (c : Bool) → HasBits (bool_byte c) (after c (λ i. false))
bits-byte c = record { small = byte_lt c; bits = go }
  where
    go : (i : ℕ) → i < 64 → is_set (bool_byte c) i ≡ after c (λ i. false) i
    go zero l = is_set-byte_zero c
    go (suc i) l = is_set-byte_suc c i

pub bits-after : {x : ℕ} {p : ℕ → Bool} (c : Bool) → HasBits x p → HasBits (bit_or (shl 1 x) (bool_byte c)) (after c p)
bits-after {x} {p} c h = bits-same (bits-or (bits-shl h) (bits-byte c)) go
  where
    go : (i : ℕ) → i < 64 → (after false p i || after c (λ i. false) i) ≡ after c p i
    go zero l = refl
    go (suc i) l = or-false (p i)

spread-is : (c : Bool) → spread c ≡ all_bits c
spread-is true = refl
spread-is false = refl

pub bits-all : (c : Bool) → HasBits (all_bits c) (λ i. c)
bits-all c = record { small = go c; bits = λ i l. ap (λ x. is_set x i) (sym (spread-is c)) ∙ is_set-spread c i l }
  where
    go : (c : Bool) → all_bits c < 2 ^ 64
    go true = omega arith
    go false = omega arith

pub number-bool : (t : Bool) (x : ℕ) → x < 2 → (x == 1) ≡ t → x ≡ bool_byte t
number-bool true zero l e = absurd (let f : false ≡ true = e in cc)
number-bool true (suc zero) l e = refl
number-bool true (suc (suc x)) l e = absurd (omega arith)
number-bool false zero l e = refl
number-bool false (suc zero) l e = absurd (let f : true ≡ false = e in cc)
number-bool false (suc (suc x)) l e = absurd (omega arith)

-- the last bit, as a number
pub bits-last : {x : ℕ} {p : ℕ → Bool} → HasBits x p → x / 2 ^ 63 ≡ bool_byte (p 63)
bits-last {x} {p} h = number-bool (p 63) (x / 2 ^ 63) (let s = h.small in omega arith) (top_bit x h.small ∙ h.bits 63 (omega arith))

-- and spread over a word
pub bits-last_spread : {x : ℕ} {p : ℕ → Bool} → HasBits x p → (0 + (2 ^ 64 - x / 2 ^ 63)) % 2 ^ 64 ≡ all_bits (p 63)
bits-last_spread {x} {p} h = ap (λ n. (0 + (2 ^ 64 - n)) % 2 ^ 64) (bits-last h) ∙ spread-is (p 63)
