-- A UTF-8 string, quoted, is a literal of that string.
use Rattle.std.proofs.Common.{◌≡◌, ◌≢◌, refl, sym, ◌∙◌, ap, subst, ℕ, ◌+◌, ◌*◌, ◌/◌, ◌%◌, ◌<◌, ◌≤◌, inl, inr, List, [], ◌∷◌, ◌++◌}
use Rattle.std.proofs.Common.{append-nil, flat_map, Bool, true, false, cond, ◌==◌, ◌&&◌, nat_lt, IsUtf8, arith}
use Rattle.std.specs.Prelude.{Some, codes, encode_utf8_all}
use Rattle.std.specs.Char.{IsScalar, encode_utf8, digit_char, digit_value}
use lib.Utf8.{next}
use Rattle.std.proofs.lemmas.Bool.{cases_lt, and_parts, and_from, cond_both, cond-true, eqb-true, eqb-false, ltb-true, ltb-false}
use Rattle.std.proofs.lemmas.Bool.{lt-ltb, le-ltb, lt-leb, ne_eqb}
use Rattle.std.proofs.lemmas.List.Concat.{flat_map-append}
use Rattle.std.proofs.lemmas.Str.{encode_ascii, digit_value-digit_char}
use Rattle.std.proofs.Math.Utf8.{scalars}
use Rattle.simd_json_parts.specs.Printed.{escaped_byte, quoted}
use Rattle.simd_json_parts.specs.Strings.{escaped_character, hex_value, IsPiece, ArePieces, IsStringLiteral}

-- ---- a character of one byte

-- two digits after two zeros
hex_value-two : (a b p q : ℕ) → digit_value a ≡ p → digit_value b ≡ q → p < 16 → q < 16 → hex_value 48 48 a b ≡ Some (p * 16 + q)
hex_value-two a b p q first second small small' =
    cond-true _ _ _ (and_from _ _ (lt-ltb (digit_value a) 16 (omega arith)) (lt-ltb (digit_value b) 16 (omega arith)))
    ∙ ap Some (omega arith)

-- a control byte is printed as its code unit
hex_value-control : (c : ℕ) → c < 32 → hex_value 48 48 (digit_char (c / 16)) (digit_char (c % 16)) ≡ Some c
hex_value-control c l =
    hex_value-two (digit_char (c / 16)) (digit_char (c % 16)) (c / 16) (c % 16) (digit_value-digit_char (c / 16) (omega arith))
    (digit_value-digit_char (c % 16) (omega arith)) (omega arith) (omega arith)
    ∙ ap Some (omega arith)

-- Each byte that is a character is printed as a piece for it.
module _ (c : ℕ) (scalar : IsScalar c) (ascii : c < 128) where
  abbrev Piece : List ℕ → Type 0
  Piece bs = IsPiece bs c

  simple : (byte letter : ℕ) → (c == byte) ≡ true → escaped_character letter ≡ Some byte → Piece (92 ∷ letter ∷ [])
  simple byte letter is e = inr (inl (letter, refl, e ∙ ap Some (sym (eqb-true c byte is))))

  control : nat_lt c 32 ≡ true → Piece (codes "\\u00" ++ digit_char (c / 16) ∷ digit_char (c % 16) ∷ [])
  control is =
      let small : c < 32 = ltb-true c 32 is in
      inr (inr (inl (
        (48, 48, digit_char (c / 16), digit_char (c % 16), refl, hex_value-control c small),
        ap (λ t. t && nat_lt c 0xdc00) (lt-leb 0xd800 c (omega arith)),
        ap (λ t. t && nat_lt c 0xe000) (lt-leb 0xdc00 c (omega arith)),
      )))

  plain : (c == 34) ≡ false → (c == 92) ≡ false → nat_lt c 32 ≡ false → Piece (c ∷ [])
  plain quote backslash control =
      inl (scalar, ltb-false c 32 control, eqb-false c 34 quote, eqb-false c 92 backslash, sym (encode_ascii c ascii))

  piece-ascii : Piece (escaped_byte c)
  piece-ascii =
      cond_both (c == 34) _ _ Piece (λ h. simple 34 34 h refl) (λ quote. cond_both (c == 92) _ _ Piece (λ h. simple 92 92 h refl)
      (λ backslash. cond_both (c == 8) _ _ Piece (λ h. simple 8 98 h refl) (λ _. cond_both (c == 9) _ _ Piece (λ h. simple 9 116 h refl)
      (λ _. cond_both (c == 10) _ _ Piece (λ h. simple 10 110 h refl) (λ _. cond_both (c == 12) _ _ Piece (λ h. simple 12 102 h refl)
      (λ _. cond_both (c == 13) _ _ Piece (λ h. simple 13 114 h refl)
      (λ _. cond_both (nat_lt c 32) _ _ Piece control (plain quote backslash))))))))

-- ---- what needs no escape

-- a byte that is no control byte, no quote and no backslash is printed as it stands,
pub escaped-plain : (x : ℕ) → 32 ≤ x → x ≢ 34 → x ≢ 92 → escaped_byte x ≡ x ∷ []
escaped-plain x l no_quote no_backslash =
    let printed : (n : ℕ) → n < 32 → (x == n) ≡ false = λ n small. ne_eqb x n (λ e. omega arith) in
    simp (
      ne_eqb x 34 no_quote,
      ne_eqb x 92 no_backslash,
      printed 8 (omega arith),
      printed 9 (omega arith),
      printed 10 (omega arith),
      printed 12 (omega arith),
      printed 13 (omega arith),
      le-ltb x 32 l,
    )

-- one past ASCII with it,
escaped-high : (x : ℕ) (ys : List ℕ) → 128 ≤ x → flat_map escaped_byte (x ∷ ys) ≡ x ∷ flat_map escaped_byte ys
escaped-high x ys l = ap (λ us. us ++ flat_map escaped_byte ys) (escaped-plain x (omega arith) (λ e. omega arith) (λ e. omega arith))

-- and so is a character of more bytes.
pub escaped-encoded : (c : ℕ) → 128 ≤ c → flat_map escaped_byte (encode_utf8 c) ≡ encode_utf8 c
unfolding encode_utf8
escaped-encoded c l = go (nat_lt c 128) (nat_lt c 2048) (nat_lt c 65536)
  where
    high : (x : ℕ) (ys : List ℕ) → 128 ≤ x → flat_map escaped_byte ys ≡ ys → flat_map escaped_byte (x ∷ ys) ≡ x ∷ ys
    high x ys l e = escaped-high x ys l ∙ ap (λ us. x ∷ us) e

    go : (x y z : Bool) → let bytes : List ℕ = cond x (c ∷ []) (cond y ((192 + c / 64) ∷ next c ∷ []) (cond z
        ((224 + c / 4096) ∷ next (c / 64) ∷ next c ∷ []) ((240 + c / 262144) ∷ next (c / 4096) ∷ next (c / 64) ∷ next c ∷ []))) in
        flat_map escaped_byte bytes ≡ bytes
    go true y z = high c [] l refl
    go false true z = high (192 + c / 64) (next c ∷ []) (omega arith) (high (next c) [] (omega arith) refl)
    go false false true =
        high (224 + c / 4096) (next (c / 64) ∷ next c ∷ []) (omega arith)
        (high (next (c / 64)) (next c ∷ []) (omega arith) (high (next c) [] (omega arith) refl))
    go false false false =
        high (240 + c / 262144) (next (c / 4096) ∷ next (c / 64) ∷ next c ∷ []) (omega arith)
        (high (next (c / 4096)) (next (c / 64) ∷ next c ∷ []) (omega arith)
        (high (next (c / 64)) (next c ∷ []) (omega arith) (high (next c) [] (omega arith) refl)))

-- ---- strings

piece : (c : ℕ) → IsScalar c → IsPiece (flat_map escaped_byte (encode_utf8 c)) c
piece c scalar =
    elim (cases_lt c 128) [
      | inl l ↦ subst (λ bs. IsPiece (flat_map escaped_byte bs) c) (sym (encode_ascii c l))
          (subst (λ bs. IsPiece bs c) (sym (append-nil (escaped_byte c))) (piece-ascii c scalar l))
      | inr l ↦ subst (λ bs. IsPiece bs c) (sym (escaped-encoded c l)) (inl (scalar, omega arith, λ e. omega arith, λ e. omega arith, refl))
    ]

pieces : (cs : List ℕ) → scalars cs ≡ true → ArePieces (flat_map escaped_byte (encode_utf8_all cs)) cs
pieces [] all = refl
pieces (c ∷ cs) all =
    let both : IsScalar c × (scalars cs ≡ true) = and_parts _ _ all in (
      flat_map escaped_byte (encode_utf8 c),
      flat_map escaped_byte (encode_utf8_all cs),
      flat_map-append escaped_byte (encode_utf8 c) (encode_utf8_all cs),
      piece c both.0,
      pieces cs both.1,
    )

-- A quoted string is a literal of it.
pub literal-quoted : (t : List ℕ) → IsUtf8 t → IsStringLiteral (quoted t) t
unfolding quoted
literal-quoted t (cs, (all, e)) =
    (flat_map escaped_byte t, cs, refl, subst (λ us. ArePieces (flat_map escaped_byte us) cs) e (pieces cs all), sym e)
