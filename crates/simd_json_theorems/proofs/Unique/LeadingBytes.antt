-- The first byte of a value tells which kind of document it is, and it is no whitespace and no closing bracket.
use Rattle.std.proofs.Common.{◌≡◌, refl, sym, ◌∙◌, ap, subst, ℕ, ◌≤◌, inl, inr, List, [], ◌∷◌, ◌++◌, true, false, cond, ◌&&◌, ◌==◌}
use Rattle.std.proofs.Common.{nat_le, arith}
use Rattle.std.proofs.lemmas.Bool.{and_from, le-leb, cond-true, cond_both}
use Rattle.std.proofs.lemmas.Bool.Decides.{nat_tests}
use Rattle.simd_json_parts.specs.Bytes.{is_whitespace, quote, left_bracket, right_bracket, left_brace}
use Rattle.simd_json_parts.specs.Document.{Document, null, boolean, integer, decimal, string, array, object}
use Rattle.simd_json_parts.specs.Grammar.{IsValue}
use Rattle.simd_json_parts.specs.Numbers.{number_literal}
use Rattle.simd_json_parts.specs.Patterns.{Matches}
use Rattle.simd_json_parts.specs.Strings.{IsStringLiteral}
use Rattle.simd_json_scalars.proofs.Numbers.Literals.{integer-number, decimal-number}

-- one byte for all with which a kind of value begins: `-` for those up to `9`, among which are a number's, `t` for `f` too, and
-- else the byte itself
abbrev pub class : ℕ → ℕ
class c = cond (nat_le 45 c && nat_le c 57) 45 (cond (c == 102) 116 c)

-- the class of the byte that a document's values begin with
abbrev pub leading : Document → ℕ
leading null = 110
leading (boolean b) = 116
leading (integer minus n) = 45
leading (decimal literal) = 45
leading (string t) = quote
leading (array ds) = left_bracket
leading (object ms) = left_brace

-- the bytes begin with one of this class
abbrev pub Leads : ℕ → List ℕ → Type 0
Leads n [] = ⊥
Leads n (c ∷ _) = class c ≡ n

-- The bytes from `-` to `9` are of one class.
byte-leads : (c : ℕ) (bs rest : List ℕ) → 45 ≤ c → c ≤ 57 → bs ≡ c ∷ rest → Leads 45 bs
byte-leads c bs rest below above e = subst (Leads 45) (sym e) (cond-true _ 45 _ (and_from _ _ (le-leb 45 c below) (le-leb c 57 above)))

-- A number begins with a sign or a digit.
number-leads : (bs : List ℕ) → Matches number_literal bs → Leads 45 bs
number-leads bs (xs, ys, e, inr (c, f, low, high), _) = byte-leads c bs ys (omega arith) (omega arith) (e ∙ ap (λ us. us ++ ys) f)
number-leads bs (xs, ys, e, inl none, (zs, ws, f, inl (c, g, low, high), _)) =
    byte-leads c bs ws (omega arith) (omega arith) (simp (e, none, f, g))
number-leads bs (xs, ys, e, inl none, (zs, ws, f, inr (us, vs, g, (c, k, low, high), _), _)) =
    byte-leads c bs (vs ++ ws) (omega arith) (omega arith) (simp (e, none, f, g, k))

-- A string begins with its quote.
pub string-leads : (bs t : List ℕ) → IsStringLiteral bs t → Leads quote bs
string-leads bs t (content, cs, e, _, _) = subst (Leads quote) (sym e) refl

-- A value begins with a byte of its document's class.
pub value-leads : (d : Document) (bs : List ℕ) → IsValue d bs → Leads (leading d) bs
value-leads null bs h = subst (Leads 110) (sym h) refl
value-leads (boolean true) bs h = subst (Leads 116) (sym h) refl
value-leads (boolean false) bs h = subst (Leads 116) (sym h) refl
value-leads (integer minus n) bs h = number-leads bs (integer-number bs h.0)
value-leads (decimal literal) bs h = number-leads bs (decimal-number bs h.0)
value-leads (string t) bs h = string-leads bs t h
value-leads (array ds) bs (inner, e, _) = subst (Leads left_bracket) (sym e) refl
value-leads (object ms) bs (inner, e, _) = subst (Leads left_brace) (sym e) refl

-- Bytes begin with one class.
pub Leads-one : (m n : ℕ) (xs ys r s : List ℕ) → Leads m xs → Leads n ys → xs ++ r ≡ ys ++ s → m ≡ n
Leads-one m n [] ys r s h g e = absurd h
Leads-one m n (x ∷ xs) [] r s h g e = absurd g
Leads-one m n (x ∷ xs) (y ∷ ys) r s h g e = let same : x ≡ y = cc in cc

-- No class takes whitespace in, or leaves it.
class-whitespace : (c : ℕ) → is_whitespace (class c) ≡ is_whitespace c
class-whitespace c =
    cond_both (nat_le 45 c && nat_le c 57) 45 (cond (c == 102) 116 c) (λ n. is_whitespace n ≡ is_whitespace c)
    (λ h. grind (arith, nat_tests))
    (λ _. cond_both (c == 102) 116 c (λ n. is_whitespace n ≡ is_whitespace c) (λ h. grind (arith, nat_tests)) (λ _. refl))

-- no whitespace stands first
abbrev pub NoSpace : List ℕ → Type 0
NoSpace [] = Unit {0}
NoSpace (c ∷ _) = is_whitespace c ≡ false

-- A class that is no whitespace's is of no whitespace.
Leads-NoSpace : (n : ℕ) (xs rest : List ℕ) → is_whitespace n ≡ false → Leads n xs → NoSpace (xs ++ rest)
Leads-NoSpace n [] rest e h = absurd h
Leads-NoSpace n (c ∷ xs) rest e h = sym (class-whitespace c) ∙ ap is_whitespace h ∙ e

-- No value's class is whitespace.
leading-whitespace : (d : Document) → is_whitespace (leading d) ≡ false
leading-whitespace null = refl
leading-whitespace _ = refl

-- A value begins with no whitespace.
pub value-NoSpace : (d : Document) (xs rest : List ℕ) → IsValue d xs → NoSpace (xs ++ rest)
value-NoSpace d xs rest h = Leads-NoSpace (leading d) xs rest (leading-whitespace d) (value-leads d xs h)

-- Nor does a string.
pub string-NoSpace : (t xs rest : List ℕ) → IsStringLiteral xs t → NoSpace (xs ++ rest)
string-NoSpace t xs rest h = Leads-NoSpace quote xs rest refl (string-leads xs t h)

-- A value begins with no closing bracket.
pub leading-right_bracket : (d : Document) → (class right_bracket == leading d) ≡ false
leading-right_bracket null = refl
leading-right_bracket _ = refl
