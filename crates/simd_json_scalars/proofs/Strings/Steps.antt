-- A string is read piece by piece: a run of plain bytes, an escape, or an escape that is none.
use Rattle.std.proofs.Common.{◌≡◌, refl, sym, ◌∙◌, ap, subst, ℕ, suc, ◌+◌, ◌<◌, inl, inr, List, [], ◌∷◌, ◌++◌, length, take, drop}
use Rattle.std.proofs.Common.{Bool, true, false, cond, not, ◌||◌, nat_eq, length-append, arith}
use Rattle.std.specs.Prelude.{Option, Some, None, encode_utf8}
use Rattle.std.specs.List.{prefix_len}
use Rattle.std.proofs.lemmas.Bool.{cases_Bool, cases_lt, cond-true, cond-false, eqb-true, false≢true}
use Rattle.std.proofs.lemmas.Bool.Decides.{nat_tests}
use Rattle.std.proofs.lemmas.List.{length-take}
use Rattle.simd_json_parts.specs.Bytes.{byte_at}
use Rattle.simd_json_parts.specs.Strings.{escaped_character, is_high_surrogate, is_low_surrogate, paired}
use Rattle.simd_json_parts.specs.StringAt.{code_unit_at, simple_piece, pair_piece, unicode_piece, escape_at, piece_at, with_piece}
use Rattle.simd_json_parts.specs.StringAt.{read_pieces}
use Rattle.simd_json_scalars.specs.StringContent.{content, is_plain, with_prefix}
use Rattle.simd_json_scalars.proofs.Strings.Pieces.{read_byte}
use Rattle.simd_json_scalars.proofs.Strings.Content.{content-byte, content-escape}
use Rattle.simd_json_scalars.proofs.Strings.CodeUnits.{FourDigits, code_unit-some, code_unit-content, code_unit-anywhere}
use Rattle.simd_json_scalars.proofs.Strings.CodeUnits.{code_unit-begins, digit-ascii}

-- the first n bytes are a piece, or pieces, that give the string
pub record PassesPieces (bs : List ℕ) (n : ℕ) (string : List ℕ) : Type 0 where
  pub size : length (content bs) ≡ n + length (content (drop n bs))
  pub read : read_pieces 0 (content bs) ≡ with_prefix string (read_pieces 0 (content (drop n bs)))

-- ---- plain bytes

-- what is neither is not the one and not the other
neither : (t u : Bool) → not (t || u) ≡ true → (t ≡ false) × (u ≡ false)
neither true u e = absurd (false≢true e)
neither false true e = absurd (false≢true e)
neither false false e = (refl, refl)

-- a plain byte in front of what passes
plain-byte : (x : ℕ) (xs : List ℕ) (n : ℕ) (string : List ℕ) → is_plain x ≡ true → PassesPieces xs n string
    → PassesPieces (x ∷ xs) (suc n) (x ∷ string)
plain-byte x xs n string e more =
    let stops : (nat_eq x 34 ≡ false) × (nat_eq x 92 ≡ false) = neither (nat_eq x 34) (nat_eq x 92) e in
    let prefix : content (x ∷ xs) ≡ x ∷ content xs = content-byte x xs stops.0 stops.1 in
    record {
      size = ap length prefix ∙ ap suc more.size ∙ omega arith;
      read = ap (read_pieces 0) prefix ∙ read_byte x (content xs) stops.1 ∙ ap (with_prefix (x ∷ [])) more.read;
    }

-- nothing passes as nothing
no-bytes : (bs : List ℕ) → PassesPieces bs 0 []
no-bytes bs = record { size = omega arith; read = refl }

-- a run of plain bytes, whose length is named
plain-run : (bs : List ℕ) (n : ℕ) → prefix_len is_plain bs ≡ n → PassesPieces bs n (take n bs)
plain-run [] n e = subst (λ k. PassesPieces [] k (take k [])) e (no-bytes [])
plain-run (x ∷ xs) n e =
    elim (cases_Bool (is_plain x)) [
      | inl h ↦
          let m : ℕ = prefix_len is_plain xs in
          let size : suc m ≡ n = omega (arith, sym (cond-true (is_plain x) (1 + m) 0 h) ∙ e) in
          subst (λ k. PassesPieces (x ∷ xs) k (take k (x ∷ xs))) size (plain-byte x xs m (take m xs) h (plain-run xs m refl))
      | inr h ↦
          let size : 0 ≡ n = sym (cond-false (is_plain x) (1 + prefix_len is_plain xs) 0 h) ∙ e in
          subst (λ k. PassesPieces (x ∷ xs) k (take k (x ∷ xs))) size (no-bytes (x ∷ xs))
    ]

-- A run of plain bytes stands for itself.
pub plain-passes : (bs : List ℕ) → PassesPieces bs (prefix_len is_plain bs) (take (prefix_len is_plain bs) bs)
plain-passes bs = plain-run bs (prefix_len is_plain bs) refl

-- ---- the extent of an escape

-- the first bytes of an escape stay together in the content, and the last of them is ASCII
pub record Escapes (bs : List ℕ) (more : ℕ) : Type 0 where
  pub inside : more < length bs
  pub last : byte_at bs more < 128
  pub prefix : content bs ≡ take (suc more) bs ++ content (drop (suc more) bs)

-- the letter of an escape is ASCII
letter-ascii : (letter c : ℕ) → escaped_character letter ≡ Some c → letter < 128
letter-ascii letter c e = elim (cases_lt letter 128) [
  | inl h ↦ h
  | inr h ↦
      let none : escaped_character letter ≡ None = grind (arith, nat_tests) in
      let both : None ≡ Some c = sym none ∙ e in
      cc
]

-- a backslash and a letter
escapes-simple : (letter : ℕ) (ys : List ℕ) (c : ℕ) → escaped_character letter ≡ Some c → Escapes (92 ∷ letter ∷ ys) 1
escapes-simple letter ys c e = record { inside = omega arith; last = letter-ascii letter c e; prefix = content-escape letter ys }

-- the content of a \u escape and what stands after it
code_unit-prefix : (ys : List ℕ) (u : ℕ) (four : FourDigits ys u)
    → content (92 ∷ 117 ∷ ys) ≡ 92 ∷ 117 ∷ four.a ∷ four.b ∷ four.c ∷ four.d ∷ content four.rest
code_unit-prefix ys u four = content-escape 117 ys ∙ ap (λ us. 92 ∷ 117 ∷ us) four.inside

-- a \u escape
escapes-code_unit : (ys : List ℕ) (u : ℕ) → FourDigits ys u → Escapes (92 ∷ 117 ∷ ys) 5
escapes-code_unit ys u four =
    let back : content (92 ∷ 117 ∷ four.a ∷ four.b ∷ four.c ∷ four.d ∷ four.rest) ≡ content (92 ∷ 117 ∷ ys) =
    ap (λ us. content (92 ∷ 117 ∷ us)) (sym four.is) in
    subst (λ us. Escapes (92 ∷ 117 ∷ us) 5) (sym four.is)
    (record { inside = omega arith; last = digit-ascii four.d four.last; prefix = back ∙ code_unit-prefix ys u four })

-- two of them
escapes-pair : (ys : List ℕ) (high low : ℕ) → FourDigits ys high → code_unit_at (drop 4 ys) ≡ Some low → Escapes (92 ∷ 117 ∷ ys) 11
escapes-pair ys high low four e = second (code_unit-begins four.rest low (ap (λ us. code_unit_at (drop 4 us)) (sym four.is) ∙ e))
  where
    second : (zs : List ℕ) × (four.rest ≡ 92 ∷ 117 ∷ zs) → Escapes (92 ∷ 117 ∷ ys) 11
    second (zs, begins) =
        let more : FourDigits zs low =
        code_unit-some zs low (ap code_unit_at (sym begins) ∙ ap (λ us. code_unit_at (drop 4 us)) (sym four.is) ∙ e) in
        let rest : four.rest ≡ 92 ∷ 117 ∷ more.a ∷ more.b ∷ more.c ∷ more.d ∷ more.rest = begins ∙ ap (λ us. 92 ∷ 117 ∷ us) more.is in
        let is : ys ≡ four.a ∷ four.b ∷ four.c ∷ four.d ∷ 92 ∷ 117 ∷ more.a ∷ more.b ∷ more.c ∷ more.d ∷ more.rest =
        four.is ∙ ap (λ us. four.a ∷ four.b ∷ four.c ∷ four.d ∷ us) rest in
        let prefix : content (92 ∷ 117 ∷ ys)
        ≡ 92 ∷ 117 ∷ four.a ∷ four.b ∷ four.c ∷ four.d ∷ 92 ∷ 117 ∷ more.a ∷ more.b ∷ more.c ∷ more.d ∷ content more.rest =
        code_unit-prefix ys high four
        ∙ ap (λ us. 92 ∷ 117 ∷ four.a ∷ four.b ∷ four.c ∷ four.d ∷ us) (ap content begins ∙ code_unit-prefix zs low more) in
        let back : content (92 ∷ 117 ∷ four.a ∷ four.b ∷ four.c ∷ four.d ∷ 92 ∷ 117 ∷ more.a ∷ more.b ∷ more.c ∷ more.d ∷ more.rest)
        ≡ content (92 ∷ 117 ∷ ys) =
        ap (λ us. content (92 ∷ 117 ∷ us)) (sym is) in
        subst (λ us. Escapes (92 ∷ 117 ∷ us) 11) (sym is)
        (record { inside = omega arith; last = digit-ascii more.d more.last; prefix = back ∙ prefix })

-- how many bytes of a piece follow its first
abbrev followers : Option (List ℕ × ℕ) → ℕ
followers None = 0
followers (Some p) = p.1

-- what a \u escape that gives a character is
data Unicode (first second : Option ℕ) (more : ℕ) : Type 0 where
  one : (u : ℕ) → first ≡ Some u → more ≡ 5 → Unicode first second more
  two : (high low : ℕ) → first ≡ Some high → second ≡ Some low → more ≡ 11 → Unicode first second more

-- no piece is none
missing : (p : List ℕ × ℕ) → let none : Option (List ℕ × ℕ) = None in none ≡ Some p → ⊥
missing p e = cc

-- a choice that gives a piece has gone one way
chosen : (t : Bool) (o : Option (List ℕ × ℕ)) (p : List ℕ × ℕ) → cond t o None ≡ Some p → o ≡ Some p
chosen true o p e = e
chosen false o p e = absurd (missing p e)

-- the other way round
chosen-else : (t : Bool) (o : Option (List ℕ × ℕ)) (p : List ℕ × ℕ) → cond t None o ≡ Some p → o ≡ Some p
chosen-else true o p e = absurd (missing p e)
chosen-else false o p e = e

-- a \u escape that gives a piece is of one number or of two
unicode : (first second : Option ℕ) (p : List ℕ × ℕ) → unicode_piece first second ≡ Some p → Unicode first second p.1
unicode None second p e = absurd (missing p e)
unicode (Some u) second p e =
    elim (cases_Bool (is_high_surrogate u)) [
      | inl h ↦ pair second (sym (cond-true (is_high_surrogate u) _ _ h) ∙ e)
      | inr h ↦ one u refl (sym (ap followers
          (chosen-else (is_low_surrogate u) (Some (encode_utf8 u, 5)) p (sym (cond-false (is_high_surrogate u) _ _ h) ∙ e))))
    ]
  where
    pair : (second : Option ℕ) → pair_piece u second ≡ Some p → Unicode (Some u) second p.1
    pair None e = absurd (missing p e)
    pair (Some low) e = two u low refl refl (sym (ap followers (chosen (is_low_surrogate low) (Some (encode_utf8 (paired u low), 11)) p e)))

-- and so are its bytes
escapes-unicode : (ys : List ℕ) (more : ℕ) → Unicode (code_unit_at (92 ∷ 117 ∷ ys)) (code_unit_at (drop 4 ys)) more
    → Escapes (92 ∷ 117 ∷ ys) more
escapes-unicode ys more (one u e size) = subst (Escapes (92 ∷ 117 ∷ ys)) (sym size) (escapes-code_unit ys u (code_unit-some ys u e))
escapes-unicode ys more (two high low e f size) =
    subst (Escapes (92 ∷ 117 ∷ ys)) (sym size) (escapes-pair ys high low (code_unit-some ys high e) f)

-- an escape of a letter that gives a piece
escapes-letter : (letter : ℕ) (ys : List ℕ) (o : Option ℕ) (p : List ℕ × ℕ) → escaped_character letter ≡ o → simple_piece o ≡ Some p
    → Escapes (92 ∷ letter ∷ ys) p.1
escapes-letter letter ys None p e f = absurd (missing p f)
escapes-letter letter ys (Some c) p e f = subst (Escapes (92 ∷ letter ∷ ys)) (ap followers f) (escapes-simple letter ys c e)

-- Where an escape gives a character, its bytes are in the content together.
pub escape-extent : (letter : ℕ) (ys : List ℕ) (p : List ℕ × ℕ) → escape_at (92 ∷ letter ∷ ys) ≡ Some p → Escapes (92 ∷ letter ∷ ys) p.1
escape-extent letter ys p e =
    elim (cases_Bool (nat_eq letter 117)) [
      | inl h ↦
          let same : letter ≡ 117 = eqb-true letter 117 h in
          let first : unicode_piece (code_unit_at (92 ∷ 117 ∷ ys)) (code_unit_at (drop 4 ys)) ≡ Some p =
          ap (λ l. escape_at (92 ∷ l ∷ ys)) (sym same) ∙ e in
          subst (λ l. Escapes (92 ∷ l ∷ ys) p.1) (sym same) (escapes-unicode ys p.1 (unicode _ _ p first))
      | inr h ↦ escapes-letter letter ys _ p refl (sym (cond-false (nat_eq letter 117) (unicode_piece
          (code_unit_at (92 ∷ letter ∷ ys)) (code_unit_at (drop 4 ys))) (simple_piece (escaped_character letter)) h) ∙ e)
    ]

-- ---- the reading of an escape

-- the second number is the same in the content
second-content : (ys : List ℕ) (o : Option ℕ) → code_unit_at (92 ∷ 117 ∷ ys) ≡ o
    → unicode_piece o (code_unit_at (drop 4 (content ys))) ≡ unicode_piece o (code_unit_at (drop 4 ys))
second-content ys None e = refl
second-content ys (Some u) e =
    let four : FourDigits ys u = code_unit-some ys u e in
    ap (λ us. unicode_piece (Some u) (code_unit_at (drop 4 us))) four.inside ∙ ap (unicode_piece (Some u))
    (code_unit-anywhere four.rest) ∙ ap (λ us. unicode_piece (Some u) (code_unit_at (drop 4 us))) (sym four.is)

-- and so are both
unicode-content : (ys : List ℕ) → unicode_piece (code_unit_at (92 ∷ 117 ∷ content ys)) (code_unit_at (drop 4 (content ys)))
    ≡ unicode_piece (code_unit_at (92 ∷ 117 ∷ ys)) (code_unit_at (drop 4 ys))
unicode-content ys = ap (λ o. unicode_piece o (code_unit_at (drop 4 (content ys)))) (code_unit-content ys)
    ∙ second-content ys (code_unit_at (92 ∷ 117 ∷ ys)) refl

-- An escape is the same in the content as in all bytes.
escape-content : (letter : ℕ) (ys : List ℕ) → escape_at (92 ∷ letter ∷ content ys) ≡ escape_at (92 ∷ letter ∷ ys)
escape-content letter ys =
    elim (cases_Bool (nat_eq letter 117)) [
      | inl h ↦ subst (λ l. escape_at (92 ∷ l ∷ content ys) ≡ escape_at (92 ∷ l ∷ ys)) (sym (eqb-true letter 117 h)) (unicode-content ys)
      | inr h ↦ cond-false (nat_eq letter 117) _ _ h ∙ sym (cond-false (nat_eq letter 117) _ _ h)
    ]

-- the bytes of a piece before are passed over
read_pieces-skip : (xs ys : List ℕ) → read_pieces (length xs) (xs ++ ys) ≡ read_pieces 0 ys
unfolding read_pieces
read_pieces-skip [] ys = refl
read_pieces-skip (x ∷ xs) ys = read_pieces-skip xs ys

-- what is read at a backslash
read-backslash : (bs : List ℕ) (o : Option (List ℕ × ℕ)) → escape_at (92 ∷ bs) ≡ o
    → read_pieces 0 (92 ∷ bs) ≡ with_piece o (92 ∷ bs) (λ n. read_pieces n bs)
unfolding read_pieces piece_at
read-backslash bs o e = ap (λ q. with_piece q (92 ∷ bs) (λ n. read_pieces n bs)) e

-- An escape gives its character,
pub escape-passes : (letter : ℕ) (ys string : List ℕ) (more : ℕ) → escape_at (92 ∷ letter ∷ ys) ≡ Some (string, more)
    → PassesPieces (92 ∷ letter ∷ ys) (suc more) string
escape-passes letter ys string more e =
    let x : Escapes (92 ∷ letter ∷ ys) more = escape-extent letter ys (string, more) e in
    let prefix : List ℕ = take more (letter ∷ ys) in
    let rest : List ℕ = content (drop more (letter ∷ ys)) in
    let size : length prefix ≡ more = omega (arith, x.inside, length-take more (letter ∷ ys)) in
    let split : letter ∷ content ys ≡ prefix ++ rest = ap (drop 1) (sym (content-escape letter ys) ∙ x.prefix) in
    record {
      size = ap length x.prefix ∙ ap suc (length-append prefix rest ∙ ap (λ n. n + length rest) size) ∙ omega arith;
      read =
          ap (read_pieces 0) (content-escape letter ys)
          ∙ read-backslash (letter ∷ content ys) (Some (string, more)) (escape-content letter ys ∙ e)
          ∙ ap (λ us. with_prefix string (read_pieces more us)) split
          ∙ ap (λ n. with_prefix string (read_pieces n (prefix ++ rest))) (sym size)
          ∙ ap (with_prefix string) (read_pieces-skip prefix rest);
    }

-- and where there is none, nothing more is read.
pub escape-stops : (letter : ℕ) (ys : List ℕ) → escape_at (92 ∷ letter ∷ ys) ≡ None
    → read_pieces 0 (content (92 ∷ letter ∷ ys)) ≡ ([], 92 ∷ letter ∷ content ys)
escape-stops letter ys e =
    ap (read_pieces 0) (content-escape letter ys) ∙ read-backslash (letter ∷ content ys) None (escape-content letter ys ∙ e)
