-- No literal of an integer or a string is shorter than what is printed of it.
use Rattle.std.proofs.Common.{◌≡◌, ◌≢◌, sym, ◌∙◌, ap, subst, ℕ, zero, suc, ◌+◌, ◌-◌, ◌^◌, ◌<◌, ◌≤◌, inl, inr, List, [], ◌∷◌, length}
use Rattle.std.proofs.Common.{append-nil, length-append, length-drop, flat_map, Bool, true, false, cond, ◌==◌, ◌||◌, nat_lt, arith}
use mir.Val.{bool_byte}
use Rattle.std.specs.Prelude.{Option, Some, encode_utf8_all}
use Rattle.std.specs.Char.{encode_utf8}
use Rattle.std.specs.Fmt.{decimal, signed_decimal}
use Rattle.std.proofs.lemmas.Bool.{cases_lt, cond_both, or_cases, eqb-true}
use Rattle.std.proofs.lemmas.Fmt.{length-decimal-le_wide}
use Rattle.std.proofs.lemmas.Int.Digits.{digits_value-lt}
use Rattle.std.proofs.lemmas.List.Concat.{flat_map-append}
use Rattle.std.proofs.lemmas.Str.{encode_ascii, length-encode}
use Rattle.simd_json_parts.specs.Bytes.{quote, backslash}
use Rattle.simd_json_parts.specs.Document.{integer}
use Rattle.simd_json_parts.specs.Grammar.{IsValue}
use Rattle.simd_json_parts.specs.Integers.{number_of, max_magnitude}
use Rattle.simd_json_parts.specs.Numbers.{int, integer_literal}
use Rattle.simd_json_parts.specs.Patterns.{Matches}
use Rattle.simd_json_parts.specs.Printed.{escaped_byte, quoted}
use Rattle.simd_json_parts.specs.Strings.{escaped_character, IsPiece, ArePieces, IsStringLiteral}
use Rattle.simd_json_scalars.proofs.Numbers.Values.{start, after_start, after_start-is, int-digits, integer-AllDigits, magnitude-is}
use Rattle.simd_json_theorems.proofs.Printing.Integers.{below-printed}
use Rattle.simd_json_theorems.proofs.Printing.Strings.{escaped-plain, escaped-encoded}
use Rattle.simd_json_theorems.proofs.Literals.Escapes.{escaped_character-small}

-- ---- integers

int-some : (bs : List ℕ) → Matches int bs → 0 < length bs
int-some bs (inl (c, e, low, high)) = omega (arith, ap length e)
int-some bs (inr (xs, ys, e, (c, f, low, high), more)) = omega (arith, ap length e, ap length f, length-append xs ys)

-- a digit stands after the sign
integer-some : (bs : List ℕ) → Matches integer_literal bs → start bs < length bs
integer-some bs (us, vs, e, inl h, m) =
    let same : bs ≡ vs = simp (e, h) in
    subst (λ ds. start ds < length ds) (sym same) (omega (arith, int-some vs m, ap bool_byte (int-digits vs m).sign))
integer-some bs (us, vs, e, inr (c, h, low, high), m) =
    let minus : c ≡ 45 = omega arith in
    let same : bs ≡ 45 ∷ vs = simp (e, h, minus) in
    subst (λ ds. start ds < length ds) (sym same) (omega (arith, int-some vs m))

-- as many digits as the literal has after its sign, at most
decimal-length : (bs : List ℕ) (minus : Bool) (n : ℕ) → IsValue (integer minus n) bs → n < 10 ^ 64
    → length (decimal n) + start bs ≤ length bs
decimal-length bs minus n (m, has, value) small =
    let ds : List ℕ = after_start bs in
    let size : length ds ≡ length bs - start bs = ap length (after_start-is bs) ∙ length-drop (start bs) bs in
    let some : start bs < length bs = integer-some bs m in
    let below : n < 10 ^ length ds =
    subst (λ v. v < 10 ^ length ds) (sym (magnitude-is bs) ∙ value) (digits_value-lt 10 ds (integer-AllDigits bs m)) in
    omega (arith, length-decimal-le_wide (length ds) n (omega arith) below small)

pub integer-length : (minus : Bool) (n : ℕ) (bs : List ℕ) → IsValue (integer minus n) bs → n ≤ max_magnitude minus
    → length (signed_decimal (number_of minus n)) ≤ length bs
integer-length false n bs h fits = omega (arith, decimal-length bs false n h (below-printed false n fits))
integer-length true zero bs h fits = omega (arith, decimal-length bs true 0 h (omega arith))
integer-length true (suc n) bs h fits = omega (arith, decimal-length bs true (suc n) h (below-printed true (suc n) fits), ap bool_byte h.1)

-- ---- characters

escaped_byte-length : (c : ℕ) → length (escaped_byte c) ≤ 6
escaped_byte-length c =
    cond_both (c == 34) _ _ Short (λ _. omega arith)
    (λ _. cond_both (c == 92) _ _ Short (λ _. omega arith) (λ _. cond_both (c == 8) _ _ Short (λ _. omega arith)
    (λ _. cond_both (c == 9) _ _ Short (λ _. omega arith)
    (λ _. cond_both (c == 10) _ _ Short (λ _. omega arith) (λ _. cond_both (c == 12) _ _ Short (λ _. omega arith)
    (λ _. cond_both (c == 13) _ _ Short (λ _. omega arith)
    (λ _. cond_both (nat_lt c 32) _ _ Short (λ _. omega arith) (λ _. omega arith))))))))
  where
    Short : List ℕ → Type 0
    Short bs = length bs ≤ 6

-- a character of one byte
escaped-ascii : (c : ℕ) → c < 128 → flat_map escaped_byte (encode_utf8 c) ≡ escaped_byte c
escaped-ascii c l = ap (flat_map escaped_byte) (encode_ascii c l) ∙ append-nil (escaped_byte c)

escaped-length : (c : ℕ) → length (flat_map escaped_byte (encode_utf8 c)) ≤ 6
escaped-length c =
    elim (cases_lt c 128) [
      | inl l ↦ omega (arith, ap length (escaped-ascii c l), escaped_byte-length c)
      | inr l ↦ omega (
        arith,
        ap length (escaped-encoded c l),
        length-encode c,
        at_most_four (nat_lt c 0x80) (nat_lt c 0x800) (nat_lt c 0x1_0000),
      )
    ]
  where
    at_most_four : (x y z : Bool) → cond x 1 (cond y 2 (cond z 3 4)) ≤ 4
    at_most_four true y z = omega arith
    at_most_four false true z = omega arith
    at_most_four false false true = omega arith
    at_most_four false false false = omega arith

-- a character that may stand as it is
plain-length : (c : ℕ) → 32 ≤ c → c ≢ 34 → c ≢ 92 → length (flat_map escaped_byte (encode_utf8 c)) ≡ length (encode_utf8 c)
plain-length c l no_quote no_backslash =
    elim (cases_lt c 128) [
      | inl small ↦ ap length (escaped-ascii c small ∙ escaped-plain c l no_quote no_backslash ∙ sym (encode_ascii c small))
      | inr high ↦ ap length (escaped-encoded c high)
    ]

-- a character that has an escape of its own
simple-length : (x c : ℕ) → escaped_character x ≡ Some c → length (escaped_byte c) ≤ 2
simple-length x c =
    cond_both ((x == quote) || (x == backslash) || (x == 47)) _ _ Short itself
    (λ _. cond_both (x == 98) _ _ Short (λ _. known 8 (omega arith)) (λ _. cond_both (x == 102) _ _ Short (λ _. known 12 (omega arith))
    (λ _. cond_both (x == 110) _ _ Short (λ _. known 10 (omega arith)) (λ _. cond_both (x == 114) _ _ Short (λ _. known 13 (omega arith))
    (λ _. cond_both (x == 116) _ _ Short (λ _. known 9 (omega arith)) (λ _ e. cc))))))
  where
    Short : Option ℕ → Type 0
    Short o = o ≡ Some c → length (escaped_byte c) ≤ 2

    known : (n : ℕ) → length (escaped_byte n) ≤ 2 → Some n ≡ Some c → length (escaped_byte c) ≤ 2
    known n l e = let same : n ≡ c = cc in subst (λ m. length (escaped_byte m) ≤ 2) same l

    letter : (n : ℕ) → length (escaped_byte n) ≤ 2 → (x == n) ≡ true → Some x ≡ Some c → length (escaped_byte c) ≤ 2
    letter n l is e = known n l (ap Some (sym (eqb-true x n is)) ∙ e)

    itself : ((x == quote) || (x == backslash) || (x == 47)) ≡ true → Some x ≡ Some c → length (escaped_byte c) ≤ 2
    itself h =
        elim (or_cases ((x == quote) || (x == backslash)) (x == 47) h) [
          | inl g ↦ elim (or_cases (x == quote) (x == backslash) g) [
            | inl e ↦ letter 34 (omega arith) e
            | inr e ↦ letter 92 (omega arith) e
          ]
          | inr e ↦ letter 47 (omega arith) e
        ]

-- ---- strings

piece-length : (xs : List ℕ) (c : ℕ) → IsPiece xs c → length (flat_map escaped_byte (encode_utf8 c)) ≤ length xs
piece-length xs c (inl (scalar, control, no_quote, no_backslash, e)) =
    omega (arith, plain-length c control no_quote no_backslash, ap length e)
piece-length xs c (inr (inl (letter, e, f))) =
    let small : (letter < 128) × (c < 128) = escaped_character-small letter c f in
    omega (arith, ap length (escaped-ascii c small.1), simple-length letter c f, ap length e)
piece-length xs c (inr (inr (inl (code_unit, high, low)))) = omega (arith, escaped-length c, ap length code_unit.4)
piece-length xs c (inr (inr (inr (us, vs, high, low, e, first, second, is_high, is_low, f)))) =
    omega (arith, escaped-length c, ap length e, length-append us vs, ap length first.4)

pieces-length : (bs cs : List ℕ) → ArePieces bs cs → length (flat_map escaped_byte (encode_utf8_all cs)) ≤ length bs
pieces-length bs [] e = omega arith
pieces-length bs (c ∷ cs) (xs, ys, e, piece, more) =
    omega (
      arith,
      ap length e,
      length-append xs ys,
      ap length (flat_map-append escaped_byte (encode_utf8 c) (encode_utf8_all cs)),
      length-append (flat_map escaped_byte (encode_utf8 c)) (flat_map escaped_byte (encode_utf8_all cs)),
      piece-length xs c piece,
      pieces-length ys cs more,
    )

pub quoted-length : (bs t : List ℕ) → IsStringLiteral bs t → length (quoted t) ≤ length bs
unfolding quoted
quoted-length bs t (content, cs, e, pieces, same) =
    let within : length (flat_map escaped_byte t) ≤ length content =
    subst (λ us. length (flat_map escaped_byte us) ≤ length content) (sym same) (pieces-length content cs pieces) in
    omega (arith, ap length e, length-append content (34 ∷ []), length-append (flat_map escaped_byte t) (34 ∷ []))
