-- A boolean from four letters as a word: which of the two it is, and that no other is there.
use Rattle.std.proofs.Common.{◌≡◌, ◌≢◌, refl, sym, ◌∙◌, ap, subst, ℕ, zero, suc, ◌+◌, ◌-◌, ◌*◌, ◌/◌, ◌%◌, ◌<◌, ◌≤◌, ◌⊎◌, inl, inr, arith}
use Rattle.std.proofs.Common.{List, [], ◌∷◌, length, get_or, drop, Bool, true, false, cond, ◌&&◌, ◌||◌, ◌==◌, nat_eq, bit_and, Ok}
use Rattle.std.specs.Char.{is_ascii_digit}
use Rattle.std.proofs.lemmas.Bool.{cases_Bool, and_left, and_parts, and_right, eqb-true, ne_eqb}
use Rattle.std.proofs.lemmas.List.{get_or_default}
use Rattle.std.proofs.lemmas.Nat.{and_mask}
use Rattle.simd_json_parts.specs.Bytes.{byte_at, is_terminator}
use Rattle.simd_json_parts.specs.Document.{boolean}
use Rattle.simd_json_parts.specs.Tokens.{scalar, form_at}
use Rattle.simd_json_stages.specs.Put.{is_boolean, IsNoScalar}
use Rattle.simd_json_stages.specs.Rejections.{rejected_kind}
use Rattle.simd_json_stages.specs.declared.stage2.fault.Fault.{Fault}
use Rattle.simd_json_stages.proofs.Tokens.ScalarLaws.{byte_at-after, word_true, word_false, form_at-word, form_at-true, form_at-false}
use Rattle.simd_json_stages.proofs.Tokens.ScalarLaws.{form_at-no_scalar, rejected_kind-other}
use Rattle.simd_json_stages.proofs.Machine.ScalarPut.{atom-rejected, none-rejected}

-- ---- by its letters

from-true : (bs : List ℕ) → 6 ≤ length bs → get_or bs 0 0 ≡ 116 → get_or bs 1 0 ≡ 114 → get_or bs 2 0 ≡ 117 → get_or bs 3 0 ≡ 101
    → (is_boolean true bs ≡ is_terminator (byte_at bs 4)) × (is_boolean false bs ≡ false)
from-true [] six t r u e = absurd (omega arith)
from-true (a ∷ []) six t r u e = absurd (omega arith)
from-true (a ∷ b ∷ []) six t r u e = absurd (omega arith)
from-true (a ∷ b ∷ c ∷ []) six t r u e = absurd (omega arith)
from-true (a ∷ b ∷ c ∷ d ∷ rest) six t r u e = (simp (t, r, u, e), simp t)

from-fals : (bs : List ℕ) → 6 ≤ length bs → get_or bs 0 0 ≡ 102 → get_or bs 1 0 ≡ 97 → get_or bs 2 0 ≡ 108 → get_or bs 3 0 ≡ 115
    → (is_boolean true bs ≡ false) × (is_boolean false bs ≡ ((nat_eq 101 (get_or bs 4 0) && true) && is_terminator (byte_at bs 5)))
from-fals [] six f a l s = absurd (omega arith)
from-fals (x ∷ []) six f a l s = absurd (omega arith)
from-fals (x ∷ y ∷ []) six f a l s = absurd (omega arith)
from-fals (x ∷ y ∷ z ∷ []) six f a l s = absurd (omega arith)
from-fals (x ∷ y ∷ z ∷ v ∷ []) six f a l s = absurd (omega arith)
from-fals (x ∷ y ∷ z ∷ v ∷ w ∷ rest) six f a l s = (simp f, simp (f, a, l, s))

-- ---- by the word

zero_or_one : (n : ℕ) → n < 2 → (n ≡ 0) ⊎ (n ≡ 1)
zero_or_one zero small = inl refl
zero_or_one (suc zero) small = inr refl
zero_or_one (suc (suc n)) small = absurd (omega arith)

module _ (bs : List ℕ) (six : 6 ≤ length bs) (fits : (k : ℕ) → get_or bs k 0 < 256) where
  abbrev pub word : ℕ
  word = get_or bs 0 0 + get_or bs 1 0 * 256 + get_or bs 2 0 * 65536 + get_or bs 3 0 * 16777216

  -- the index after it is 5 less the bit
  abbrev pub Ends : ℕ → Type 0
  Ends bit = (get_or bs (5 - bit - 1) 0 ≡ 101) × (is_terminator (get_or bs (5 - bit) 0) ≡ true)

  abbrev pub Breaks : ℕ → Type 0
  Breaks bit = (get_or bs (5 - bit - 1) 0 ≢ 101) ⊎ (is_terminator (get_or bs (5 - bit) 0) ≡ false)

  pub record Spelt (bit : ℕ) : Type 0 where
    pub whole : Ends bit → is_boolean (nat_eq bit 1) bs ≡ true
    pub none : Breaks bit → (is_boolean true bs ≡ false) × (is_boolean false bs ≡ false)

  at-five : is_terminator (byte_at bs 5) ≡ is_terminator (get_or bs 5 0)
  at-five = ap is_terminator (get_or_default bs 5 32 0 (omega arith))

  at-four : is_terminator (byte_at bs 4) ≡ is_terminator (get_or bs 4 0)
  at-four = ap is_terminator (get_or_default bs 4 32 0 (omega arith))

  spelt-true : word ≡ 1702195828 → Spelt 1
  spelt-true is =
      let a = fits 0 in
      let b = fits 1 in
      let c = fits 2 in
      let d = fits 3 in
      let e : get_or bs 3 0 ≡ 101 = omega arith in
      let f = from-true bs six (omega arith) (omega arith) (omega arith) e in
      record {
        whole = λ ends. f.0 ∙ at-four ∙ ends.1;
        none = λ breaks. (f.0 ∙ at-four ∙ elim breaks [ inl other ↦ absurd (other e) | inr inside ↦ inside ], f.1);
      }

  spelt-false : word ≡ 1936482662 → Spelt 0
  spelt-false is =
      let a = fits 0 in
      let b = fits 1 in
      let c = fits 2 in
      let d = fits 3 in
      let f = from-fals bs six (omega arith) (omega arith) (omega arith) (omega arith) in
      record {
        whole = λ ends. f.1 ∙ ap (λ x. (nat_eq 101 x && true) && is_terminator (byte_at bs 5)) ends.0 ∙ at-five ∙ ends.1;
        none = λ breaks. (
          f.0,
          f.1 ∙ elim breaks [
            | inl other ↦ and_left _ _ (and_left _ _ (ne_eqb 101 (get_or bs 4 0) (λ same. other (sym same))))
            | inr inside ↦ and_right _ _ (at-five ∙ inside)
          ],
        );
      }

  -- The fifth bit of the word tells which of the two it may be.
  pub spelt : (w : ℕ) → w ≡ word → w ≡ 1936482662 - bit_and (w / 16) 1 * 234286834 → Spelt (bit_and (w / 16) 1)
  spelt w is expected =
      let low : bit_and (w / 16) 1 ≡ w / 16 % 2 = and_mask (w / 16) 1 in
      by (bit_and (w / 16) 1) (omega arith) expected
    where
      by : (bit : ℕ) → bit < 2 → w ≡ 1936482662 - bit * 234286834 → Spelt bit
      by bit small e =
          let cases : (bit ≡ 0) ⊎ (bit ≡ 1) = zero_or_one bit small in
          elim cases [
            | inl z ↦ subst Spelt (sym z) (spelt-false (omega arith))
            | inr o ↦ subst Spelt (sym o) (spelt-true (omega arith))
          ]

-- ---- at an index of an input

first-letter : (v : Bool) (rest : List ℕ) → is_boolean v rest ≡ true → byte_at rest 0 ≡ cond v 116 102
first-letter true [] h = cc
first-letter true (c ∷ rest) h = sym (eqb-true 116 c (and_parts _ _ (and_parts _ _ h).0).0)
first-letter false [] h = cc
first-letter false (c ∷ rest) h = sym (eqb-true 102 c (and_parts _ _ (and_parts _ _ h).0).0)

pub form_at-boolean : (v : Bool) (b rest : List ℕ) (i : ℕ) → drop i b ≡ rest → is_boolean v rest ≡ true
    → form_at b i ≡ scalar (Ok (boolean v, i + cond v 4 5))
form_at-boolean true b rest i e h =
    form_at-true b rest i e (ap (byte_at b) (omega arith) ∙ byte_at-after b rest i 0 e ∙ first-letter true rest h) h
form_at-boolean false b rest i e h =
    form_at-false b rest i e (ap (byte_at b) (omega arith) ∙ byte_at-after b rest i 0 e ∙ first-letter false rest h) h

-- where no boolean is, and no other scalar may be
pub no_boolean : (b rest : List ℕ) (i c : ℕ) → drop i b ≡ rest → c ≡ byte_at b i
    → (is_boolean true rest ≡ false) × (is_boolean false rest ≡ false) → nat_eq c 110 ≡ false
    → ((c == 45) || is_ascii_digit c) ≡ false → (f : Fault) → f ≡ record { kind = rejected_kind c; index = i; byte = c }
    → c ≢ 34 → c ≢ 91 → c ≢ 123 → IsNoScalar b i f
no_boolean b rest i c e first neither null number f same string array object =
    elim (cases_Bool (nat_eq c 116)) [
      | inl t ↦ let is : c ≡ 116 = eqb-true c 116 t in
          atom-rejected b i c f same first (rw is (form_at-word word_true false b rest i e (sym first ∙ is) neither.0))
      | inr t ↦ elim (cases_Bool (nat_eq c 102)) [
        | inl u ↦ let is : c ≡ 102 = eqb-true c 102 u in
            atom-rejected b i c f same first (rw is (form_at-word word_false false b rest i e (sym first ∙ is) neither.1))
        | inr u ↦ none-rejected b i c f same first (rejected_kind-other c t u null)
            (form_at-no_scalar b i c (sym first) t u null number) string array object
      ]
    ]
