-- A number before a terminator or the end, and an atom or a string before anything, are determined by the bytes alone.
use Rattle.std.proofs.Common.{◌≡◌, refl, sym, ◌∙◌, ap, subst, ℕ, suc, ◌+◌, List, ◌∷◌, ◌++◌, length, take, drop, append_assoc, Bool}
use Rattle.std.proofs.Common.{true, false, arith}
use Rattle.std.specs.Prelude.{codes, encode_utf8_all, Ok}
use Rattle.std.proofs.lemmas.Bool.{eqb-false}
use Rattle.std.proofs.Math.Seq.{take-append_seam, drop-append_seam}
use Rattle.simd_json_parts.specs.Bytes.{quote, is_terminator, byte_at}
use Rattle.simd_json_parts.specs.Document.{boolean, integer, decimal}
use Rattle.simd_json_parts.specs.Derivatives.{longest_prefix}
use Rattle.simd_json_parts.specs.Grammar.{IsValue}
use Rattle.simd_json_parts.specs.Numbers.{number_literal, integer_literal, has_minus, magnitude}
use Rattle.simd_json_parts.specs.Patterns.{Matches}
use Rattle.simd_json_parts.specs.Strings.{ArePieces, IsStringLiteral}
use Rattle.simd_json_parts.specs.StringAt.{string_at}
use Rattle.simd_json_scalars.proofs.Numbers.Literals.{integer-number, decimal-number, integer-not_decimal}
use Rattle.simd_json_parts.proofs.Patterns.Bytes.{longest_prefix-append}
use Rattle.simd_json_theorems.proofs.Literals.Quotes.{string_at-literal}
use Rattle.simd_json_theorems.proofs.Unique.SpacedPrefixes.{Ended, append-replace}

-- Prefixes of one length are the same, and so is what stands after them.
append-same : (xs ys r s : List ℕ) → xs ++ r ≡ ys ++ s → length xs ≡ length ys → (xs ≡ ys) × (r ≡ s)
append-same xs ys r s e l = (
  sym (take-append_seam xs r) ∙ ap (take (length xs)) e ∙ ap (λ n. take n (ys ++ s)) l ∙ take-append_seam ys s,
  sym (drop-append_seam xs r) ∙ ap (drop (length xs)) e ∙ ap (λ n. drop n (ys ++ s)) l ∙ drop-append_seam ys s,
)

-- ---- atoms

-- `true` and `false` are determined.
pub boolean-one : (a b : Bool) (xs ys r s : List ℕ) → IsValue (boolean a) xs → IsValue (boolean b) ys → xs ++ r ≡ ys ++ s
    → (boolean a ≡ boolean b) × (r ≡ s)
boolean-one true true xs ys r s h g e = (refl, ap (drop 4) (append-replace xs ys (codes "true") (codes "true") r s h g e))
boolean-one false false xs ys r s h g e = (refl, ap (drop 5) (append-replace xs ys (codes "false") (codes "false") r s h g e))
boolean-one true false xs ys r s h g e =
    absurd (eqb-false 116 102 refl (ap (λ us. byte_at us 0) (append-replace xs ys (codes "true") (codes "false") r s h g e)))
boolean-one false true xs ys r s h g e =
    absurd (eqb-false 102 116 refl (ap (λ us. byte_at us 0) (append-replace xs ys (codes "false") (codes "true") r s h g e)))

-- ---- numbers

-- Two numbers at the front of the same bytes, each with a terminator or the end after it, are the same.
literal-one : (xs ys r s : List ℕ) → Matches number_literal xs → Matches number_literal ys → xs ++ r ≡ ys ++ s → Ended r
    → Ended s → (xs ≡ ys) × (r ≡ s)
literal-one xs ys r s m n e t u =
    append-same xs ys r s e
    (sym (longest_prefix-append is_terminator number_literal xs r refl m t)
    ∙ ap (longest_prefix number_literal) e
    ∙ longest_prefix-append is_terminator number_literal ys s refl n u)

-- So integers have the same sign and magnitude,
pub integer-one : (minus minus' : Bool) (m n : ℕ) (xs ys r s : List ℕ) → IsValue (integer minus m) xs → IsValue (integer minus' n) ys
    → xs ++ r ≡ ys ++ s → Ended r → Ended s → (integer minus m ≡ integer minus' n) × (r ≡ s)
integer-one minus minus' m n xs ys r s (g, v, w) (h, v', w') e t u =
    let same : (xs ≡ ys) × (r ≡ s) = literal-one xs ys r s (integer-number xs g) (integer-number ys h) e t u in
    (ap (λ minus. integer minus m) (sym v ∙ ap has_minus same.0 ∙ v') ∙ ap (integer minus') (sym w ∙ ap magnitude same.0 ∙ w'), same.1)

-- decimals are the same,
pub decimal-one : (literal literal' : List ℕ) (xs ys r s : List ℕ) → IsValue (decimal literal) xs → IsValue (decimal literal') ys
    → xs ++ r ≡ ys ++ s → Ended r → Ended s → (decimal literal ≡ decimal literal') × (r ≡ s)
decimal-one literal literal' xs ys r s (g, v) (h, w) e t u =
    let same : (xs ≡ ys) × (r ≡ s) = literal-one xs ys r s (decimal-number xs g) (decimal-number ys h) e t u in
    (ap decimal (sym v ∙ same.0 ∙ w), same.1)

-- and an integer is no decimal.
pub integer-decimal : (minus : Bool) (m : ℕ) (literal xs ys r s : List ℕ) → IsValue (integer minus m) xs → IsValue (decimal literal) ys
    → xs ++ r ≡ ys ++ s → Ended r → Ended s → ⊥
integer-decimal minus m literal xs ys r s (g, _, _) (h, _) e t u =
    let same : (xs ≡ ys) × (r ≡ s) = literal-one xs ys r s (integer-number xs g) (decimal-number ys h) e t u in
    integer-not_decimal ys (subst (Matches integer_literal) same.0 g) h

-- ---- strings

-- Two contents after the same quote are read as the same string, up to the same quote.
content-one : (bs content content' r s cs cs' : List ℕ) → bs ≡ quote ∷ (content ++ quote ∷ r) → bs ≡ quote ∷ (content' ++ quote ∷ s)
    → ArePieces content cs → ArePieces content' cs' → (encode_utf8_all cs ≡ encode_utf8_all cs') × (length content ≡ length content')
content-one bs content content' r s cs cs' e f pieces pieces' =
    let x : List ℕ × ℕ = (encode_utf8_all cs, suc (suc 0 + length content)) in
    let y : List ℕ × ℕ = (encode_utf8_all cs', suc (suc 0 + length content')) in
    let first : string_at bs 0 ≡ Ok x = string_at-literal bs 0 content r cs e pieces in
    let second : string_at bs 0 ≡ Ok y = string_at-literal bs 0 content' s cs' f pieces' in
    let same : x ≡ y = cc in
    (ap (λ (p : List ℕ × ℕ). p.0) same, omega (arith, ap (λ (p : List ℕ × ℕ). p.1) same))

-- Two strings at the front of the same bytes are the same, whatever stands after them.
pub string-one : (t t' xs ys r s : List ℕ) → IsStringLiteral xs t → IsStringLiteral ys t' → xs ++ r ≡ ys ++ s → (t ≡ t') × (r ≡ s)
string-one t t' xs ys r s (content, cs, f, pieces, string) (content', cs', f', pieces', string') e =
    let first : xs ++ r ≡ quote ∷ (content ++ quote ∷ r) = ap (λ us. us ++ r) f ∙ simp append_assoc in
    let second : xs ++ r ≡ quote ∷ (content' ++ quote ∷ s) = e ∙ ap (λ us. us ++ s) f' ∙ simp append_assoc in
    let same : (encode_utf8_all cs ≡ encode_utf8_all cs') × (length content ≡ length content') =
    content-one (xs ++ r) content content' r s cs cs' first second pieces pieces' in
    let rest : (content ≡ content') × (quote ∷ r ≡ quote ∷ s) =
    append-same content content' (quote ∷ r) (quote ∷ s) (ap (drop 1) (sym first ∙ second)) same.1 in
    (string ∙ same.0 ∙ sym string', ap (drop 1) rest.1)
