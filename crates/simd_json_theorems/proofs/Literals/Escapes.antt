-- The bytes of escapes are ASCII, and four hexadecimal digits spell a number of 16 bits.
use Rattle.std.proofs.Common.{inl, inr, ◌||◌, ◌==◌, ◌≡◌, subst, ℕ, ◌+◌, ◌*◌, ◌<◌, true, ◌&&◌, nat_lt, arith}
use Rattle.std.specs.Prelude.{Option, Some}
use Rattle.std.specs.Char.{is_digit, digit_value}
use Rattle.std.proofs.lemmas.Bool.{cond_both, or_cases, and_parts, eqb-true, ltb-true}
use Rattle.simd_json_parts.specs.Bytes.{quote, backslash}
use Rattle.simd_json_parts.specs.Strings.{escaped_character, hex_value}

-- four hexadecimal digits, and the number that they spell
pub record AreHexDigits (a b c d u : ℕ) : Type 0 where
  pub first : is_digit a 16 ≡ true
  pub second : is_digit b 16 ≡ true
  pub third : is_digit c 16 ≡ true
  pub fourth : is_digit d 16 ≡ true
  pub value : digit_value a * 4096 + digit_value b * 256 + digit_value c * 16 + digit_value d ≡ u

-- Bytes that spell a number are four digits.
pub hex_value-digits : (a b c d u : ℕ) → hex_value a b c d ≡ Some u → AreHexDigits a b c d u
hex_value-digits a b c d u =
    cond_both (is_digit a 16 && is_digit b 16 && is_digit c 16 && is_digit d 16) _ _ (λ o. o ≡ Some u → AreHexDigits a b c d u)
    (λ h e.
    let last : ((is_digit a 16 && is_digit b 16 && is_digit c 16) ≡ true) × (is_digit d 16 ≡ true) = and_parts _ _ h in
    let third : ((is_digit a 16 && is_digit b 16) ≡ true) × (is_digit c 16 ≡ true) = and_parts _ _ last.0 in
    let first : (is_digit a 16 ≡ true) × (is_digit b 16 ≡ true) = and_parts _ _ third.0 in
    record { first = first.0; second = first.1; third = third.1; fourth = last.1; value = cc })
    (λ _ e. cc)

-- four digits below 16, as a number
hex_small : (p q r s : ℕ) → p < 16 → q < 16 → r < 16 → s < 16 → p * 4096 + q * 256 + r * 16 + s < 65536
hex_small p q r s hp hq hr hs = omega arith

-- The number has 16 bits.
pub hex_value-small : (a b c d u : ℕ) → hex_value a b c d ≡ Some u → u < 65536
hex_value-small a b c d u e =
    let h : AreHexDigits a b c d u = hex_value-digits a b c d u e in
    subst (λ n. n < 65536) h.value
    (hex_small _ _ _ _ (ltb-true _ _ h.first) (ltb-true _ _ h.second) (ltb-true _ _ h.third) (ltb-true _ _ h.fourth))

-- A hexadecimal digit is ASCII.
pub hex_digit-small : (x : ℕ) → is_digit x 16 ≡ true → x < 128
hex_digit-small x h =
    cond_both (nat_lt x 48) _ _ Small (λ e _. omega (arith, ltb-true x 48 e))
    (λ _. cond_both (nat_lt x 58) _ _ Small (λ e _. omega (arith, ltb-true x 58 e))
    (λ _. cond_both (nat_lt x 65) _ _ Small (λ e _. omega (arith, ltb-true x 65 e))
    (λ _. cond_both (nat_lt x 91) _ _ Small (λ e _. omega (arith, ltb-true x 91 e))
    (λ _. cond_both (nat_lt x 97) _ _ Small (λ e _. omega (arith, ltb-true x 97 e))
    (λ _. cond_both (nat_lt x 123) _ _ Small (λ e _. omega (arith, ltb-true x 123 e)) (λ _ l. absurd (omega (arith, l))))))))
    (ltb-true (digit_value x) 16 h)
  where
    Small : ℕ → Type 0
    Small v = v < 16 → x < 128

-- The letter of an escape and its character are ASCII.
pub escaped_character-small : (x c : ℕ) → escaped_character x ≡ Some c → (x < 128) × (c < 128)
escaped_character-small x c =
    cond_both ((x == quote) || (x == backslash) || (x == 47)) _ _ Small itself
    (λ _. cond_both (x == 98) _ _ Small (λ h. known 98 8 h (omega arith) (omega arith))
    (λ _. cond_both (x == 102) _ _ Small (λ h. known 102 12 h (omega arith) (omega arith))
    (λ _. cond_both (x == 110) _ _ Small (λ h. known 110 10 h (omega arith) (omega arith))
    (λ _. cond_both (x == 114) _ _ Small (λ h. known 114 13 h (omega arith) (omega arith))
    (λ _. cond_both (x == 116) _ _ Small (λ h. known 116 9 h (omega arith) (omega arith)) (λ _ e. cc))))))
  where
    Small : Option ℕ → Type 0
    Small o = o ≡ Some c → (x < 128) × (c < 128)

    known : (letter n : ℕ) → (x == letter) ≡ true → letter < 128 → n < 128 → Some n ≡ Some c → (x < 128) × (c < 128)
    known letter n h l m e = let same : n ≡ c = cc in (omega (arith, eqb-true x letter h), omega arith)

    same_letter : (letter : ℕ) → (x == letter) ≡ true → letter < 128 → Some x ≡ Some c → (x < 128) × (c < 128)
    same_letter letter h l e = known letter x h l (omega (arith, eqb-true x letter h)) e

    itself : ((x == quote) || (x == backslash) || (x == 47)) ≡ true → Some x ≡ Some c → (x < 128) × (c < 128)
    itself h =
        elim (or_cases ((x == quote) || (x == backslash)) (x == 47) h) [
          | inl g ↦ elim (or_cases (x == quote) (x == backslash) g) [
            | inl e ↦ same_letter quote e (omega arith)
            | inr e ↦ same_letter backslash e (omega arith)
          ]
          | inr e ↦ same_letter 47 e (omega arith)
        ]
