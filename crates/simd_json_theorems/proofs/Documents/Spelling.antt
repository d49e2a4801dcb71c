-- What bytes denote can be spelled: its decimals are literals, and its strings and names are UTF-8.
use Rattle.std.proofs.Common.{◌≡◌, sym, subst, ℕ, ◌<◌, inl, inr, List, [], ◌∷◌, true, false, nat_le, nat_lt, refl, IsUtf8, arith}
use Rattle.std.specs.Char.{IsScalar, InScalarRange}
use Rattle.std.proofs.lemmas.Bool.{and_parts, and_from, ltb-true}
use Rattle.std.proofs.lemmas.Bool.Decides.{nat_tests}
use Rattle.std.proofs.Math.Utf8.{scalars}
use Rattle.simd_json_parts.specs.Document.{Document, null, boolean, integer, decimal, string, array, object, Elements, no_elements}
use Rattle.simd_json_parts.specs.Document.{element, Members, no_members, member}
use Rattle.simd_json_parts.specs.Strings.{is_high_surrogate, is_low_surrogate, paired, IsPiece, ArePieces, IsStringLiteral}
use Rattle.simd_json_theorems.specs.Spellable.{IsSpellable, ElementsSpellable, MembersSpellable}
use Rattle.simd_json_parts.specs.Grammar.{Denotes, IsValue, AreElements, AreMoreElements, AreMembers, AreMoreMembers}
use Rattle.simd_json_parts.specs.Patterns.{Matches}
use Rattle.simd_json_parts.specs.Numbers.{decimal_literal}
use Rattle.simd_json_theorems.proofs.Literals.Escapes.{escaped_character-small, hex_value-small}

-- ---- characters

-- A number in one of the two ranges of characters is one.
IsScalar-range : (c : ℕ) → InScalarRange c → IsScalar c
IsScalar-range c h = grind (arith, nat_tests)

-- The number of a code unit that is no surrogate, and that of a pair of surrogates, is a character.
IsScalar-code_unit : (u : ℕ) → u < 65536 → is_high_surrogate u ≡ false → is_low_surrogate u ≡ false → IsScalar u
IsScalar-code_unit u l high low = grind (arith, nat_tests)

IsScalar-pair : (high low : ℕ) → is_high_surrogate high ≡ true → is_low_surrogate low ≡ true → IsScalar (paired high low)
IsScalar-pair high low h l =
    let a : (nat_le 0xd800 high ≡ true) × (nat_lt high 0xdc00 ≡ true) = and_parts _ _ h in
    let b : (nat_le 0xdc00 low ≡ true) × (nat_lt low 0xe000 ≡ true) = and_parts _ _ l in
    let first : high < 0xdc00 = ltb-true _ _ a.1 in
    let second : low < 0xe000 = ltb-true _ _ b.1 in
    IsScalar-range (paired high low) (inr (omega arith, omega arith))

-- A piece is for a character.
pub IsScalar-piece : (bs : List ℕ) (c : ℕ) → IsPiece bs c → IsScalar c
IsScalar-piece bs c (inl (scalar, control, no_quote, no_backslash, e)) = scalar
IsScalar-piece bs c (inr (inl (letter, e, f))) =
    let small : (letter < 128) × (c < 128) = escaped_character-small letter c f in
    IsScalar-range c (inl (omega arith))
IsScalar-piece bs c (inr (inr (inl (code_unit, high, low)))) =
    IsScalar-code_unit c (hex_value-small code_unit.0 code_unit.1 code_unit.2 code_unit.3 c code_unit.5) high low
IsScalar-piece bs c (inr (inr (inr (us, vs, high, low, e, first, second, is_high, is_low, f)))) =
    subst IsScalar (sym f) (IsScalar-pair high low is_high is_low)

-- So pieces are for characters.
scalars-pieces : (bs cs : List ℕ) → ArePieces bs cs → scalars cs ≡ true
scalars-pieces bs [] e = refl
scalars-pieces bs (c ∷ cs) (xs, ys, e, piece, more) = and_from _ _ (IsScalar-piece xs c piece) (scalars-pieces ys cs more)

-- The string of a literal is UTF-8.
pub IsUtf8-literal : (bs t : List ℕ) → IsStringLiteral bs t → IsUtf8 t
IsUtf8-literal bs t (content, cs, e, pieces, same) = (cs, (scalars-pieces content cs pieces, sym same))

-- ---- documents, by induction on them

mutual
  value-spellable : (d : Document) (bs : List ℕ) → IsValue d bs → IsSpellable d
  value-spellable null bs h = tt
  value-spellable (boolean b) bs h = tt
  value-spellable (integer minus n) bs h = tt
  value-spellable (decimal literal) bs (m, e) = subst (Matches decimal_literal) e m
  value-spellable (string t) bs h = IsUtf8-literal bs t h
  value-spellable (array ds) bs (inner, e, h) = elements-spellable ds inner h
  value-spellable (object ms) bs (inner, e, h) = members-spellable ms inner h

  elements-spellable : (ds : Elements) (bs : List ℕ) → AreElements ds bs → ElementsSpellable ds
  elements-spellable no_elements bs h = tt
  elements-spellable (element d ds) bs h =
      (value-spellable d h.left_holds.inner h.left_holds.holds, more_elements-spellable ds h.right h.right_holds)

  more_elements-spellable : (ds : Elements) (bs : List ℕ) → AreMoreElements ds bs → ElementsSpellable ds
  more_elements-spellable no_elements bs h = tt
  more_elements-spellable (element d ds) bs (rest, e, h) =
      (value-spellable d h.left_holds.inner h.left_holds.holds, more_elements-spellable ds h.right h.right_holds)

  members-spellable : (ms : Members) (bs : List ℕ) → AreMembers ms bs → MembersSpellable ms
  members-spellable no_members bs h = tt
  members-spellable (member k d ms) bs h =
      let value = h.right_holds.2 in (
        IsUtf8-literal h.left_holds.inner k h.left_holds.holds,
        value-spellable d value.left_holds.inner value.left_holds.holds,
        more_members-spellable ms value.right value.right_holds,
      )

  more_members-spellable : (ms : Members) (bs : List ℕ) → AreMoreMembers ms bs → MembersSpellable ms
  more_members-spellable no_members bs h = tt
  more_members-spellable (member k d ms) bs (rest, e, h) =
      let value = h.right_holds.2 in (
        IsUtf8-literal h.left_holds.inner k h.left_holds.holds,
        value-spellable d value.left_holds.inner value.left_holds.holds,
        more_members-spellable ms value.right value.right_holds,
      )

-- What bytes denote can be spelled.
pub IsSpellable-denoted : (b : List ℕ) (d : Document) → Denotes b d → IsSpellable d
IsSpellable-denoted b d h = value-spellable d h.inner h.holds
