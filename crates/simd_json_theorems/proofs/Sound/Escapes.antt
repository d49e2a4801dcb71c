-- An escape that is read is a piece of the grammar.
use Rattle.std.proofs.Common.{◌≡◌, refl, sym, ◌∙◌, ap, subst, ℕ, ◌<◌, ◌⊎◌, inl, inr, List, [], ◌∷◌, ◌++◌, true, ◌&&◌, ◌==◌, length}
use Rattle.std.proofs.Common.{length-append, drop, append_assoc, IsUtf8, arith}
use Rattle.std.specs.Prelude.{Option, Some, None}
use Rattle.std.proofs.lemmas.Bool.{cases_Bool, and_parts, eqb-true, cond-true, cond-false}
use Rattle.std.proofs.lemmas.Str.{encode_ascii, IsUtf8-past_char}
use Rattle.simd_json_parts.specs.Bytes.{backslash, lower_u}
use Rattle.simd_json_parts.specs.Strings.{escaped_character, hex_value, is_high_surrogate, is_low_surrogate, paired, IsCodeUnit, IsPiece}
use Rattle.simd_json_parts.specs.StringAt.{code_unit_at, simple_piece, pair_piece, unicode_piece, escape_at}
use Rattle.simd_json_theorems.proofs.Literals.Escapes.{AreHexDigits, hex_value-digits, hex_digit-small, escaped_character-small}

-- a piece, and what stands after it
pub record HasPiece (bs : List ℕ) : Type 0 where
  pub character : ℕ
  pub piece : List ℕ
  pub after : List ℕ
  pub whole : bs ≡ piece ++ after
  pub some : 0 < length piece
  pub is : IsPiece piece character
  pub utf8 : IsUtf8 bs → IsUtf8 after

-- What stands after an ASCII byte of UTF-8 is UTF-8.
rest_after_ascii : (x : ℕ) (bs : List ℕ) → x < 128 → IsUtf8 (x ∷ bs) → IsUtf8 bs
rest_after_ascii x bs l u = IsUtf8-past_char (x ∷ bs) bs x u (ap (λ xs. xs ++ bs) (sym (encode_ascii x l)))

-- ---- code units

-- \u and four digits, and what stands after them
record HasCodeUnit (bs : List ℕ) : Type 0 where
  number : ℕ
  piece : List ℕ
  after : List ℕ
  whole : bs ≡ piece ++ after
  some : 0 < length piece
  is : IsCodeUnit piece number
  utf8 : IsUtf8 bs → IsUtf8 after
  read : code_unit_at bs ≡ Some number
  rest : drop 6 bs ≡ after

-- So is what stands after a code unit.
after_code_unit : (a b c d u : ℕ) (bs : List ℕ) → hex_value a b c d ≡ Some u → IsUtf8 (92 ∷ 117 ∷ a ∷ b ∷ c ∷ d ∷ bs) → IsUtf8 bs
after_code_unit a b c d u bs value h =
    let are : AreHexDigits a b c d u = hex_value-digits a b c d u value in
    let digits : IsUtf8 (a ∷ b ∷ c ∷ d ∷ bs) = rest_after_ascii 117 _ (omega arith) (rest_after_ascii 92 _ (omega arith) h) in
    let last : IsUtf8 (c ∷ d ∷ bs) =
    rest_after_ascii b _ (hex_digit-small b are.second) (rest_after_ascii a _ (hex_digit-small a are.first) digits) in
    rest_after_ascii d bs (hex_digit-small d are.fourth) (rest_after_ascii c _ (hex_digit-small c are.third) last)

-- A code unit stands at the front, or none is read.
code_unit-cases : (bs : List ℕ) → (code_unit_at bs ≡ None) ⊎ HasCodeUnit bs
code_unit-cases (s ∷ t ∷ a ∷ b ∷ c ∷ d ∷ bs) =
    elim (cases_Bool ((s == backslash) && (t == lower_u))) [
      | inl h ↦
          let both : ((s == backslash) ≡ true) × ((t == lower_u) ≡ true) = and_parts _ _ h in
          go (hex_value a b c d) refl (eqb-true s backslash both.0) (eqb-true t lower_u both.1) h
      | inr h ↦ inl (cond-false _ _ _ h)
    ]
  where
    go : (o : Option ℕ) → hex_value a b c d ≡ o → s ≡ backslash → t ≡ lower_u → ((s == backslash) && (t == lower_u)) ≡ true
        → (code_unit_at (s ∷ t ∷ a ∷ b ∷ c ∷ d ∷ bs) ≡ None) ⊎ HasCodeUnit (s ∷ t ∷ a ∷ b ∷ c ∷ d ∷ bs)
    go None value e f h = inl (cond-true _ _ _ h ∙ value)
    go (Some u) value e f h =
        inr (record {
          number = u;
          piece = s ∷ t ∷ a ∷ b ∷ c ∷ d ∷ [];
          after = bs;
          whole = refl;
          some = omega arith;
          is = (a, b, c, d, cc, value);
          utf8 = λ g. let same : s ∷ t ∷ a ∷ b ∷ c ∷ d ∷ bs ≡ 92 ∷ 117 ∷ a ∷ b ∷ c ∷ d ∷ bs = cc in
              after_code_unit a b c d u bs value (subst (λ xs. IsUtf8 xs) same g);
          read = cond-true _ _ _ h ∙ value;
          rest = refl;
        })
code_unit-cases _ = inl refl

-- ---- escapes

-- The letter is that of an escape, or none is read.
letter-cases : (letter : ℕ) (bs : List ℕ) (o : Option ℕ) → escaped_character letter ≡ o
    → (simple_piece o ≡ None) ⊎ HasPiece (92 ∷ letter ∷ bs)
letter-cases letter bs None e = inl refl
letter-cases letter bs (Some c) e =
    inr (record {
      character = c;
      piece = 92 ∷ letter ∷ [];
      after = bs;
      whole = refl;
      some = omega arith;
      is = inr (inl (letter, refl, e));
      utf8 = λ u. rest_after_ascii letter bs (escaped_character-small letter c e).0 (rest_after_ascii 92 (letter ∷ bs) (omega arith) u);
    })

-- The number is a character's, or a pair's with the next, or no piece is read.
unicode-cases : (bs : List ℕ) (h : HasCodeUnit bs) → (unicode_piece (Some h.number) (code_unit_at h.after) ≡ None) ⊎ HasPiece bs
unicode-cases bs h =
    elim (cases_Bool (is_high_surrogate h.number)) [
      | inl high ↦ elim (code_unit-cases h.after) [
        | inl none ↦ inl (cond-true _ _ _ high ∙ ap (pair_piece h.number) none)
        | inr g ↦ elim (cases_Bool (is_low_surrogate g.number)) [
          | inl low ↦ inr (record {
            character = paired h.number g.number;
            piece = h.piece ++ g.piece;
            after = g.after;
            whole = h.whole ∙ ap (λ xs. h.piece ++ xs) g.whole ∙ simp append_assoc;
            some = omega (arith, h.some, length-append h.piece g.piece);
            is = inr (inr (inr (h.piece, g.piece, h.number, g.number, refl, h.is, g.is, high, low, refl)));
            utf8 = λ u. g.utf8 (h.utf8 u);
          })
          | inr other ↦ inl (cond-true _ _ _ high ∙ ap (pair_piece h.number) g.read ∙ cond-false _ _ _ other)
        ]
      ]
      | inr single ↦ elim (cases_Bool (is_low_surrogate h.number)) [
        | inl low ↦ inl (cond-false _ _ _ single ∙ cond-true _ _ _ low)
        | inr other ↦ inr (record {
          character = h.number;
          piece = h.piece;
          after = h.after;
          whole = h.whole;
          some = h.some;
          is = inr (inr (inl (h.is, single, other)));
          utf8 = h.utf8;
        })
      ]
    ]

-- After a backslash stands a piece, or none is read.
pub escape-cases : (bs : List ℕ) → (escape_at (92 ∷ bs) ≡ None) ⊎ HasPiece (92 ∷ bs)
escape-cases [] = inl refl
escape-cases (letter ∷ bs) =
    elim (cases_Bool (letter == lower_u)) [
      | inl is ↦ elim (code_unit-cases (92 ∷ letter ∷ bs)) [
        | inl none ↦ inl (cond-true _ _ _ is ∙ ap (λ o. unicode_piece o (code_unit_at (drop 6 (92 ∷ letter ∷ bs)))) none)
        | inr h ↦ elim (unicode-cases (92 ∷ letter ∷ bs) h) [
          | inl none ↦ inl (cond-true _ _ _ is ∙ ap (λ o. unicode_piece o (code_unit_at (drop 6 (92 ∷ letter ∷ bs)))) h.read
              ∙ ap (λ xs. unicode_piece (Some h.number) (code_unit_at xs)) h.rest ∙ none)
          | inr g ↦ inr g
        ]
      ]
      | inr other ↦ elim (letter-cases letter bs (escaped_character letter) refl) [
        | inl none ↦ inl (cond-false _ _ _ other ∙ none)
        | inr h ↦ inr h
      ]
    ]
