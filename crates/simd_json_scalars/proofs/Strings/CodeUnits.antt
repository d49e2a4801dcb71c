-- The code unit of a \u escape is the same in the content of a string as in all the bytes after it: no digit is a quote.
use Rattle.std.proofs.Common.{◌≡◌, refl, sym, ◌∙◌, ap, subst, ℕ, zero, suc, ◌<◌, ◌⊎◌, inl, inr, List, [], ◌∷◌, ◌++◌, take, drop}
use Rattle.std.proofs.Common.{Bool, true, false, cond, ◌&&◌, nat_eq, arith}
use Rattle.std.specs.Prelude.{Option, Some, None, if◌then◌else◌}
use Rattle.std.specs.Char.{is_digit}
use Rattle.std.proofs.lemmas.Bool.{cases_Bool, cond-true, cond-false, eqb-true, false≢true, and_parts}
use Rattle.std.proofs.lemmas.Bool.Decides.{nat_tests}
use Rattle.simd_json_parts.specs.Strings.{hex_value}
use Rattle.simd_json_parts.specs.StringAt.{code_unit_at}
use Rattle.simd_json_scalars.specs.StringContent.{content_from, content}
use Rattle.simd_json_parts.proofs.Positions.Boundaries.{no_digit}
use Rattle.simd_json_scalars.proofs.Strings.Content.{content-nil, content-byte, content-escape, content-dangling}

-- the first n bytes are hexadecimal digits
abbrev begins_with_digits : ℕ → List ℕ → Bool
begins_with_digits zero ys = true
begins_with_digits (suc n) [] = false
begins_with_digits (suc n) (y ∷ ys) = is_digit y 16 && begins_with_digits n ys

-- a digit is of the content
content-digit : (y : ℕ) (ys : List ℕ) → is_digit y 16 ≡ true → content (y ∷ ys) ≡ y ∷ content ys
content-digit y ys e = content-byte y ys (no_digit y 34 e refl) (no_digit y 92 e refl)

-- a digit is ASCII
pub digit-ascii : (c : ℕ) → is_digit c 16 ≡ true → c < 128
digit-ascii c e = grind (arith, nat_tests)

-- a content begins with its first byte, if not with the closing quote
data FirstByte (y : ℕ) (bs : List ℕ) : Type 0 where
  none : bs ≡ [] → FirstByte y bs
  first : (r : List ℕ) → bs ≡ y ∷ r → FirstByte y bs

-- a content is empty or begins with the first byte
content-prefix : (y : ℕ) (ys : List ℕ) → FirstByte y (content (y ∷ ys))
unfolding content_from
content-prefix y ys =
    elim (cases_Bool (nat_eq y 34)) [
      | inl h ↦ none (cond-true (nat_eq y 34) [] (y ∷ content_from (nat_eq y 92) ys) h)
      | inr h ↦ first (content_from (nat_eq y 92) ys) (cond-false (nat_eq y 34) [] (y ∷ content_from (nat_eq y 92) ys) h)
    ]

-- after a byte that is no digit there are not so many digits
no_digits : (n y : ℕ) (bs : List ℕ) → FirstByte y bs → is_digit y 16 ≡ false → begins_with_digits (suc n) bs ≡ false
no_digits n y bs (none e) h = ap (begins_with_digits (suc n)) e
no_digits n y bs (first r e) h = ap (begins_with_digits (suc n)) e ∙ ap (λ t. t && begins_with_digits n r) h

-- The digits at the front are all in the content.
digits-content : (n : ℕ) (ys : List ℕ) → (begins_with_digits n (content ys) ≡ begins_with_digits n ys)
    × (begins_with_digits n ys ≡ true → content ys ≡ take n ys ++ content (drop n ys))
unfolding content_from
digits-content zero ys = (refl, λ e. refl)
digits-content (suc n) [] = (refl, λ e. refl)
digits-content (suc n) (y ∷ ys) = pair (digits-content n ys) (cases_Bool (is_digit y 16))
  where
    pair : (begins_with_digits n (content ys) ≡ begins_with_digits n ys)
        × (begins_with_digits n ys ≡ true → content ys ≡ take n ys ++ content (drop n ys))
        → (is_digit y 16 ≡ true) ⊎ (is_digit y 16 ≡ false)
        → (begins_with_digits (suc n) (content (y ∷ ys)) ≡ begins_with_digits (suc n) (y ∷ ys))
        × (begins_with_digits (suc n) (y ∷ ys) ≡ true
        → content (y ∷ ys) ≡ take (suc n) (y ∷ ys) ++ content (drop (suc n) (y ∷ ys)))
    pair more (inl h) =
        let prefix : content (y ∷ ys) ≡ y ∷ content ys = content-digit y ys h in (
          ap (begins_with_digits (suc n)) prefix ∙ ap (λ t. is_digit y 16 && t) more.0,
          λ e. prefix ∙ ap (λ us. y ∷ us) (more.1 (and_parts _ _ e).1),
        )
    pair more (inr h) =
        let bad : begins_with_digits (suc n) (y ∷ ys) ≡ false = ap (λ t. t && begins_with_digits n ys) h in
        (no_digits n y (content (y ∷ ys)) (content-prefix y ys) h ∙ sym bad, λ e. absurd (false≢true (sym bad ∙ e)))

-- ---- one \u escape

-- four digits, their number, and what stands after them
pub record FourDigits (ys : List ℕ) (u : ℕ) : Type 0 where
  pub a : ℕ
  pub b : ℕ
  pub c : ℕ
  pub d : ℕ
  pub rest : List ℕ
  pub is : ys ≡ a ∷ b ∷ c ∷ d ∷ rest
  pub value : hex_value a b c d ≡ Some u
  pub last : is_digit d 16 ≡ true
  pub inside : content ys ≡ a ∷ b ∷ c ∷ d ∷ content rest

abbrev None-or-FourDigits : List ℕ → Type 0
None-or-FourDigits ys = (begins_with_digits 4 ys ≡ false)
    ⊎ ((a : ℕ) × (b : ℕ) × (c : ℕ) × (d : ℕ) × (rest : List ℕ) × (ys ≡ a ∷ b ∷ c ∷ d ∷ rest) × (begins_with_digits 4 ys ≡ true))

-- a list that ends too soon
ends_short : (t : Bool) → (t && false) ≡ false
ends_short true = refl
ends_short false = refl

-- there are four digits, or there are not
shape : (ys : List ℕ) → None-or-FourDigits ys
shape [] = inl refl
shape (a ∷ []) = inl (ends_short (is_digit a 16))
shape (a ∷ b ∷ []) = inl (ap (λ t. is_digit a 16 && t) (ends_short (is_digit b 16)) ∙ ends_short (is_digit a 16))
shape (a ∷ b ∷ c ∷ []) = inl (ap (λ t. is_digit a 16 && (is_digit b 16 && t)) (ends_short (is_digit c 16))
    ∙ ap (λ t. is_digit a 16 && t) (ends_short (is_digit b 16)) ∙ ends_short (is_digit a 16))
shape (a ∷ b ∷ c ∷ d ∷ rest) =
    elim (cases_Bool (begins_with_digits 4 (a ∷ b ∷ c ∷ d ∷ rest))) [
      | inl h ↦ inr (a, b, c, d, rest, refl, h)
      | inr h ↦ inl h
    ]

-- the two spellings of "all four are digits"
tests : (t u v w : Bool) (o : Option ℕ) → cond (t && u && v && w) o None ≡ cond (t && (u && (v && (w && true)))) o None
tests true true true true o = refl
tests t u v w o = refl

-- the last of four digits is one
last-digit : (t u v w : Bool) → (t && (u && (v && (w && true)))) ≡ true → w ≡ true
last-digit true true true true e = refl
last-digit true true true false e = e
last-digit t u v w e = absurd (false≢true e)

-- four bytes that are not all digits have no number
value-none : (a b c d : ℕ) (rest : List ℕ) → begins_with_digits 4 (a ∷ b ∷ c ∷ d ∷ rest) ≡ false → hex_value a b c d ≡ None
value-none a b c d rest e = tests (is_digit a 16) (is_digit b 16) (is_digit c 16) (is_digit d 16) _ ∙ cond-false _ _ None e

-- and so a backslash and u before them
code_unit-none : (ys : List ℕ) → begins_with_digits 4 ys ≡ false → code_unit_at (92 ∷ 117 ∷ ys) ≡ None
code_unit-none (a ∷ b ∷ c ∷ d ∷ rest) e = value-none a b c d rest e
code_unit-none _ e = refl

-- the number, if there is one
pub code_unit-some : (ys : List ℕ) (u : ℕ) → code_unit_at (92 ∷ 117 ∷ ys) ≡ Some u → FourDigits ys u
code_unit-some ys u e = from (shape ys)
  where
    from : None-or-FourDigits ys → FourDigits ys u
    from (inl h) = let none : None ≡ Some u = sym (code_unit-none ys h) ∙ e in cc
    from (inr (a, b, c, d, rest, is, h)) =
        let all : begins_with_digits 4 (a ∷ b ∷ c ∷ d ∷ rest) ≡ true = ap (begins_with_digits 4) (sym is) ∙ h in
        record {
          a = a;
          b = b;
          c = c;
          d = d;
          rest = rest;
          is = is;
          value = ap (λ us. code_unit_at (92 ∷ 117 ∷ us)) (sym is) ∙ e;
          last = last-digit (is_digit a 16) (is_digit b 16) (is_digit c 16) (is_digit d 16) all;
          inside = (digits-content 4 ys).1 h ∙ ap (λ us. take 4 us ++ content (drop 4 us)) is;
        }

-- The number of the escape in the content is that in all bytes.
pub code_unit-content : (ys : List ℕ) → code_unit_at (92 ∷ 117 ∷ content ys) ≡ code_unit_at (92 ∷ 117 ∷ ys)
code_unit-content ys = from (shape ys)
  where
    from : None-or-FourDigits ys → code_unit_at (92 ∷ 117 ∷ content ys) ≡ code_unit_at (92 ∷ 117 ∷ ys)
    from (inl h) = code_unit-none (content ys) ((digits-content 4 ys).0 ∙ h) ∙ sym (code_unit-none ys h)
    from (inr (a, b, c, d, rest, is, h)) =
        ap (λ us. code_unit_at (92 ∷ 117 ∷ us)) ((digits-content 4 ys).1 h ∙ ap (λ us. take 4 us ++ content (drop 4 us)) is)
        ∙ ap (λ us. code_unit_at (92 ∷ 117 ∷ us)) (sym is)

-- ---- where no \u stands

-- without a backslash
no_backslash : (x : ℕ) (r : List ℕ) → nat_eq x 92 ≡ false → code_unit_at (x ∷ r) ≡ None
no_backslash x (u ∷ a ∷ b ∷ c ∷ d ∷ r) e = ap (λ t. if t && nat_eq u 117 then hex_value a b c d else None) e
no_backslash x _ e = refl

-- without a u
no_u : (u : ℕ) (r : List ℕ) → nat_eq u 117 ≡ false → code_unit_at (92 ∷ u ∷ r) ≡ None
no_u u (a ∷ b ∷ c ∷ d ∷ r) e = ap (λ t. if t then hex_value a b c d else None) e
no_u u _ e = refl

-- The same at any bytes.
pub code_unit-anywhere : (zs : List ℕ) → code_unit_at (content zs) ≡ code_unit_at zs
code_unit-anywhere [] = ap code_unit_at content-nil
code_unit-anywhere (x ∷ r) = elim (cases_Bool (nat_eq x 92)) [
  | inl h ↦ subst (λ y. code_unit_at (content (y ∷ r)) ≡ code_unit_at (y ∷ r)) (sym (eqb-true x 92 h)) (backslashed r)
  | inr h ↦ other (content-prefix x r) h ∙ sym (no_backslash x r h)
]
  where
    other : FirstByte x (content (x ∷ r)) → nat_eq x 92 ≡ false → code_unit_at (content (x ∷ r)) ≡ None
    other (none e) h = ap code_unit_at e
    other (first s e) h = ap code_unit_at e ∙ no_backslash x s h

    backslashed : (r : List ℕ) → code_unit_at (content (92 ∷ r)) ≡ code_unit_at (92 ∷ r)
    backslashed [] = ap code_unit_at content-dangling
    backslashed (u ∷ ys) =
        elim (cases_Bool (nat_eq u 117)) [
          | inl h ↦ subst (λ v. code_unit_at (content (92 ∷ v ∷ ys)) ≡ code_unit_at (92 ∷ v ∷ ys)) (sym (eqb-true u 117 h))
              (ap code_unit_at (content-escape 117 ys) ∙ code_unit-content ys)
          | inr h ↦ ap code_unit_at (content-escape u ys) ∙ no_u u (content ys) h ∙ sym (no_u u ys h)
        ]

-- Where there is a number, there are a backslash and u.
pub code_unit-begins : (zs : List ℕ) (u : ℕ) → code_unit_at zs ≡ Some u → (ys : List ℕ) × (zs ≡ 92 ∷ 117 ∷ ys)
code_unit-begins [] u e = let none : None ≡ Some u = e in cc
code_unit-begins (x ∷ []) u e = let none : None ≡ Some u = e in cc
code_unit-begins (x ∷ y ∷ ys) u e =
    elim (cases_Bool (nat_eq x 92)) [
      | inr h ↦ let none : None ≡ Some u = sym (no_backslash x (y ∷ ys) h) ∙ e in cc
      | inl h ↦
          let same : x ≡ 92 = eqb-true x 92 h in
          elim (cases_Bool (nat_eq y 117)) [
            | inr k ↦ let none : None ≡ Some u = sym (no_u y ys k) ∙ ap (λ z. code_unit_at (z ∷ y ∷ ys)) (sym same) ∙ e in cc
            | inl k ↦ (ys, ap (λ z. z ∷ y ∷ ys) same ∙ ap (λ z. 92 ∷ z ∷ ys) (eqb-true y 117 k))
          ]
    ]
