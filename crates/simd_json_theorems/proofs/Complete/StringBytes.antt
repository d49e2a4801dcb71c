-- The bytes of a string literal: those of escapes are ASCII, the others spell characters, and none is a control byte.
use Rattle.std.proofs.Common.{◌≡◌, refl, sym, ◌∙◌, ap, subst, ℕ, ◌≤◌, ◌⊎◌, inl, inr, List, [], ◌∷◌, ◌++◌, ◌+◌, ◌/◌, cond, Bool}
use Rattle.std.proofs.Common.{true, false, not, ◌&&◌, ◌==◌, nat_le, nat_lt, IsTrue, arith}
use Rattle.std.specs.Prelude.{Some, None}
use Rattle.std.specs.Char.{encode_utf8, is_digit, IsScalar}
use Rattle.std.specs.List.{list_all, All}
use Rattle.std.proofs.lemmas.Bool.{le-ltb, leb-true, and_parts, cases_Bool, and_from, not_from_false}
use Rattle.std.proofs.lemmas.Bool.Decides.{nat_tests}
use Rattle.std.proofs.lemmas.List.Elements.{All-nil, All-cons, All-append}
use Rattle.std.proofs.lemmas.List.Folds.{list_all-append}
use lib.Utf8.{next}
use Rattle.simd_json_parts.specs.Bytes.{quote, is_control}
use Rattle.simd_json_parts.specs.Strings.{escaped_character, IsCodeUnit, IsPiece, ArePieces, IsStringLiteral}
use Rattle.simd_json_parts.proofs.Positions.Boundaries.{apart}
use Rattle.simd_json_theorems.proofs.Complete.Concatenations.{IsClosed, of_bytes}
use Rattle.simd_json_theorems.proofs.Literals.Escapes.{AreHexDigits, hex_value-digits}

-- ASCII from the space on: so is each byte of an escape
abbrev pub is_noncontrol_ascii : ℕ → Bool
is_noncontrol_ascii c = nat_le 32 c && nat_lt c 128

abbrev AreAscii : List ℕ → Type 0
AreAscii xs = IsTrue (list_all is_noncontrol_ascii xs)

-- digits, letters and numbers of escapes
ascii-digit : (c : ℕ) → is_digit c 16 ≡ true → is_noncontrol_ascii c ≡ true
ascii-digit c h = grind (arith, nat_tests)

ascii-letter : (x c : ℕ) → escaped_character x ≡ Some c → is_noncontrol_ascii x ≡ true
ascii-letter x c e =
    elim (cases_Bool (is_noncontrol_ascii x)) [
      | inl h ↦ h
      | inr bad ↦ absurd (none bad)
    ]
  where
    none : is_noncontrol_ascii x ≡ false → ⊥
    none bad =
        let no : (n : ℕ) → is_noncontrol_ascii n ≡ true → (x == n) ≡ false =
        λ n good. apart (λ y. not (is_noncontrol_ascii y)) x n (not_from_false _ bad) (ap not good) in
        let unknown : escaped_character x ≡ None =
        rw (no 34 refl, no 92 refl, no 47 refl, no 98 refl, no 102 refl, no 110 refl, no 114 refl, no 116 refl) refl in
        cc

ascii-code_unit : (xs : List ℕ) (u : ℕ) → IsCodeUnit xs u → AreAscii xs
ascii-code_unit xs u (a, b, c, d, e, value) =
    let are : AreHexDigits a b c d u = hex_value-digits a b c d u value in
    subst AreAscii (sym e) (rw (ascii-digit a are.first, ascii-digit b are.second, ascii-digit c are.third, ascii-digit d are.fourth) refl)

-- a piece is an escape, or spells a character
piece_cases : (xs : List ℕ) (c : ℕ) → IsPiece xs c → AreAscii xs ⊎ (IsScalar c × (32 ≤ c) × (xs ≡ encode_utf8 c))
piece_cases xs c (inl (scalar, low, no_quote, no_backslash, e)) = inr (scalar, low, e)
piece_cases xs c (inr (inl (letter, e, f))) = inl (subst AreAscii (sym e) (rw (ascii-letter letter c f) refl))
piece_cases xs c (inr (inr (inl (code_unit, high, low)))) = inl (ascii-code_unit xs c code_unit)
piece_cases xs c (inr (inr (inr (us, vs, high, low, e, first, second, is_high, is_low, f)))) =
    inl (subst AreAscii (sym e)
    (list_all-append is_noncontrol_ascii us vs ∙ and_from _ _ (ascii-code_unit us high first) (ascii-code_unit vs low second)))

module _ (P : List ℕ → Type 0) (closed : IsClosed P) (ascii : (c : ℕ) → is_noncontrol_ascii c ≡ true → P (c ∷ []))
    (characters : (c : ℕ) → IsScalar c → 32 ≤ c → P (encode_utf8 c)) where
  -- of pieces
  of_pieces : (bs cs : List ℕ) → ArePieces bs cs → P bs
  of_pieces bs [] e = subst P (sym e) closed.nil
  of_pieces bs (c ∷ cs) (xs, ys, e, piece, more) =
      subst P (sym e) (closed.append xs ys (elim (piece_cases xs c piece) [
        | inl h ↦ of_bytes P closed is_noncontrol_ascii ascii xs h
        | inr h ↦ subst P (sym h.2) (characters c h.0 h.1)
      ]) (of_pieces ys cs more))

  -- What holds of each byte of ASCII, of characters and of concatenations holds of strings.
  pub of_string : (bs t : List ℕ) → IsStringLiteral bs t → P bs
  of_string bs t (content, cs, e, pieces, spells) =
      subst P (sym e) (closed.append (quote ∷ []) (content ++ quote ∷ []) (ascii quote refl)
      (closed.append content (quote ∷ []) (of_pieces content cs pieces) (ascii quote refl)))

-- ---- no byte of a string literal is a control byte

-- no byte is below 0x20
abbrev pub NoControl : List ℕ → Type 0
NoControl = All (λ c. is_control c ≡ false)

NoControl-byte : (c : ℕ) → 32 ≤ c → NoControl (c ∷ [])
NoControl-byte c l = All-cons (λ c. is_control c ≡ false) c [] (le-ltb c 32 l) (All-nil (λ c. is_control c ≡ false))

IsClosed-NoControl : IsClosed NoControl
IsClosed-NoControl = record { nil = All-nil (λ c. is_control c ≡ false); append = All-append (λ c. is_control c ≡ false) }

-- no byte of a character past the control bytes is one
NoControl-character : (c : ℕ) → 32 ≤ c → NoControl (encode_utf8 c)
unfolding encode_utf8
NoControl-character c l = go (nat_lt c 128) (nat_lt c 2048) (nat_lt c 65536)
  where
    also : (x : ℕ) (xs : List ℕ) → 128 ≤ x → NoControl xs → NoControl (x ∷ xs)
    also x xs h more = All-cons (λ c. is_control c ≡ false) x xs (le-ltb x 32 (omega arith)) more

    go : (x y z : Bool) → NoControl (cond x (c ∷ []) (cond y ((192 + c / 64) ∷ next c ∷ []) (cond z
        ((224 + c / 4096) ∷ next (c / 64) ∷ next c ∷ []) ((240 + c / 262144) ∷ next (c / 4096) ∷ next (c / 64) ∷ next c ∷ []))))
    go true y z = NoControl-byte c l
    go false true z = also (192 + c / 64) (next c ∷ []) (omega arith) (NoControl-byte (next c) (omega arith))
    go false false true = also (224 + c / 4096) (next (c / 64) ∷ next c ∷ []) (omega arith)
        (also (next (c / 64)) (next c ∷ []) (omega arith) (NoControl-byte (next c) (omega arith)))
    go false false false =
        also (240 + c / 262144) (next (c / 4096) ∷ next (c / 64) ∷ next c ∷ []) (omega arith)
        (also (next (c / 4096)) (next (c / 64) ∷ next c ∷ []) (omega arith)
        (also (next (c / 64)) (next c ∷ []) (omega arith) (NoControl-byte (next c) (omega arith))))

-- So none of a string literal is.
pub NoControl-string : (xs t : List ℕ) → IsStringLiteral xs t → NoControl xs
NoControl-string = of_string NoControl IsClosed-NoControl (λ c h. NoControl-byte c (leb-true 32 c (and_parts _ _ h).0))
    (λ c scalar low. NoControl-character c low)
