-- Six shifts, each joined by xor, give the parity of the bits up to each place.
use Rattle.std.proofs.Common.{◌≡◌, refl, sym, ◌∙◌, ap, ap₂, ℕ, suc, ◌+◌, ◌-◌, ◌*◌, ◌^◌, ◌<◌, Bool, false, inl, inr, arith, mod-lt}
use Rattle.std.proofs.Common.{pow_pos}
use Rattle.std.proofs.lemmas.Bool.{cases_lt}
use lib.Bits.{bit_xor, xor_lt}
use Rattle.simd_json_stages.specs.Words.{is_set, HasBits, xor, parity}
use Rattle.simd_json_stages.proofs.Scan.Bits.Computed.{equal-one, equal-two, equal-three}
use Rattle.simd_json_stages.proofs.Scan.Bits.Operations.{shl, is_set-xor, is_set-shl_low, is_set-shl_high}

-- an odd number of the n bits that end with bit i is set; where there are fewer, of all up to bit i
abbrev window : ℕ → ℕ → ℕ → Bool
window x n i = xor (parity x (i + 1)) (parity x (i + 1 - n))

xor-false : (s : Bool) → xor s false ≡ s
xor-false = equal-one (λ s. xor s false) (λ s. s) tt

chained : (s t u : Bool) → xor (xor s t) (xor t u) ≡ xor s u
chained = equal-three (λ s t u. xor (xor s t) (xor t u)) (λ s t u. xor s u) tt

-- a window of one bit
single : (x i : ℕ) → is_set x i ≡ window x 1 i
unfolding parity
single x i =
    let up : i + 1 ≡ suc i = omega arith in
    let down : i + 1 - 1 ≡ i = omega arith in
    equal-two (λ s t. t) (λ s t. xor (xor s t) s) tt (parity x i) (is_set x i)
    ∙ sym (ap₂ (λ m n. xor (parity x m) (parity x n)) up down)

-- A window and the one before it are a window of twice the length.
doubled : (x y n : ℕ) → HasBits y (window x n) → HasBits (bit_xor y (shl n y)) (window x (2 * n))
unfolding parity
doubled x y n h = record {
  small = xor_lt 64 y (shl n y) h.small (mod-lt (y * 2 ^ n) (pow_pos 64));
  bits = λ i l. is_set-xor y (shl n y) i ∙ ap₂ xor (h.bits i l) refl ∙ elim (cases_lt i n) [
    | inl below ↦
        let none : i + 1 - n ≡ 0 = omega arith in
        let still : i + 1 - 2 * n ≡ 0 = omega arith in
        ap (λ t. xor (window x n i) t) (is_set-shl_low n i y below l) ∙ xor-false (window x n i)
        ∙ ap (λ m. xor (parity x (i + 1)) (parity x m)) (none ∙ sym still)
    | inr above ↦
        let j = i - n in
        let there : i ≡ n + j = omega arith in
        let seam : j + 1 ≡ i + 1 - n = omega arith in
        let end : j + 1 - n ≡ i + 1 - 2 * n = omega arith in
        ap (λ t. xor (window x n i) t)
        (ap (is_set (shl n y)) there ∙ is_set-shl_high n j y (omega arith) ∙ h.bits j (omega arith)
        ∙ ap₂ (λ p q. xor (parity x p) (parity x q)) seam end)
        ∙ chained (parity x (i + 1)) (parity x (i + 1 - n)) (parity x (i + 1 - 2 * n))
  ];
}

abbrev step : ℕ → ℕ → ℕ
step n y = bit_xor y (shl n y)

abbrev pub prefixes : ℕ → ℕ
prefixes x = step 32 (step 16 (step 8 (step 4 (step 2 (step 1 x)))))

pub prefix-bits : (x : ℕ) → x < 2 ^ 64 → HasBits (prefixes x) (λ i. parity x (i + 1))
unfolding parity
prefix-bits x small =
    let one : HasBits x (window x 1) = record { small = small; bits = λ i l. single x i } in
    let all = doubled x _ 32 (doubled x _ 16 (doubled x _ 8 (doubled x _ 4 (doubled x _ 2 (doubled x x 1 one))))) in
    record {
      small = all.small;
      bits = λ i l. let none : i + 1 - 64 ≡ 0 = omega arith in all.bits i l ∙ ap (λ m. xor (parity x (i + 1)) (parity x m)) none
          ∙ xor-false (parity x (i + 1));
    }
