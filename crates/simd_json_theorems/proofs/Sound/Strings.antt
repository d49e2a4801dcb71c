-- What is read of a string are pieces for its characters, up to where none stands.
use Rattle.std.proofs.Common.{◌≡◌, ◌≢◌, refl, sym, ◌∙◌, ap, subst, ℕ, zero, suc, ◌+◌, ◌<◌, ◌≤◌, ◌⊎◌, inl, inr, List, [], ◌∷◌, ◌++◌}
use Rattle.std.proofs.Common.{length, drop, true, false, nat_eq, length-append, append_assoc, IsUtf8, arith}
use Rattle.std.specs.Prelude.{None, encode_utf8_all}
use Rattle.std.specs.Char.{encode_utf8}
use Rattle.std.proofs.lemmas.Bool.{cases_Bool, cases_lt, and_parts, eqb-true, eqb-false, both_ways}
use Rattle.std.proofs.lemmas.Str.{byte_from_char, len_utf8_bounds, length-encode}
use Rattle.simd_json_parts.specs.Bytes.{quote, backslash, byte_at}
use Rattle.simd_json_parts.specs.Strings.{ArePieces}
use Rattle.simd_json_parts.specs.StringAt.{escape_at, piece_at, with_piece, read_pieces}
use Rattle.simd_json_parts.specs.Positions.{is_even, backslashes_before, is_real_quote}
use Rattle.simd_json_parts.proofs.Lists.Drops.{drop-head}
use Rattle.simd_json_parts.proofs.Positions.Scan.{NoneBetween}
use Rattle.simd_json_scalars.proofs.Strings.Pieces.{read_piece}
use Rattle.simd_json_theorems.proofs.Literals.Quotes.{Passed, pass_piece, real_quote}
use Rattle.simd_json_theorems.proofs.Sound.Escapes.{HasPiece, escape-cases}

-- Where no escape stands, nothing is read.
read_pieces-rejected : (bs : List ℕ) → escape_at (92 ∷ bs) ≡ None → read_pieces 0 (92 ∷ bs) ≡ ([], 92 ∷ bs)
unfolding read_pieces piece_at
read_pieces-rejected bs none = ap (λ o. with_piece o (92 ∷ bs) (λ n. read_pieces n bs)) none

-- From start up to stop there is no real quote and no control byte; zs stands after.
module _ (b : List ℕ) (start stop : ℕ) (zs : List ℕ) (none : NoneBetween (is_real_quote b) start stop)
    (plain : (j : ℕ) → start ≤ j → j < stop → 32 ≤ byte_at b j) where
  -- A character that is no backslash is a piece.
  plain-piece : (m x : ℕ) (bs : List ℕ) → start ≤ m → m < stop → drop m b ≡ x ∷ (bs ++ zs)
      → is_even (backslashes_before b m) ≡ true → nat_eq x 92 ≡ false
      → IsUtf8 (x ∷ bs) → HasPiece (x ∷ bs)
  plain-piece m x bs l h e even other ([], (s, f)) = cc
  plain-piece m x bs l h e even other (c ∷ cs, (s, f)) = record {
    character = c;
    piece = encode_utf8 c;
    after = encode_utf8_all cs;
    whole = sym f;
    some = omega (arith, len_utf8_bounds c, length-encode c);
    is = inl ((and_parts _ _ s).0, printed, no_quote, no_backslash, refl);
    utf8 = λ _. (cs, ((and_parts _ _ s).1, refl));
  }
    where
      first : c < 128 → x ≡ c
      first small = byte_from_char (x ∷ bs) (encode_utf8_all cs) c (sym f) small

      printed : 32 ≤ c
      printed = elim (cases_lt c 128) [
        | inl small ↦ omega (arith, first small, plain m l h, drop-head m b x (bs ++ zs) e)
        | inr big ↦ omega arith
      ]

      no_quote : c ≢ quote
      no_quote is =
          let same : x ≡ 34 = first (omega arith) ∙ is in
          both_ways (is_real_quote b m) (none m l h) (real_quote b m (bs ++ zs) (e ∙ ap (λ y. y ∷ (bs ++ zs)) same) even)

      no_backslash : c ≢ backslash
      no_backslash is = eqb-false x 92 other (first (omega arith) ∙ is)

  -- What begins with no piece is left.
  first-piece : (m x : ℕ) (bs : List ℕ) → start ≤ m → m < stop → drop m b ≡ x ∷ (bs ++ zs)
      → is_even (backslashes_before b m) ≡ true → IsUtf8 (x ∷ bs)
      → (read_pieces 0 (x ∷ bs) ≡ ([], x ∷ bs)) ⊎ HasPiece (x ∷ bs)
  first-piece m x bs l h e even u =
      elim (cases_Bool (nat_eq x 92)) [
        | inl is ↦
            let same : 92 ≡ x = sym (eqb-true x 92 is) in
            subst (λ y. (read_pieces 0 (y ∷ bs) ≡ ([], y ∷ bs)) ⊎ HasPiece (y ∷ bs)) same
            (elim (escape-cases bs) [ inl none ↦ inl (read_pieces-rejected bs none) | inr p ↦ inr p ])
        | inr other ↦ inr (plain-piece m x bs l h e even other u)
      ]

  -- at most n bytes, which stand at index m up to stop
  pub record IsContent (n m : ℕ) (bs : List ℕ) : Type 0 where
    pub short : length bs ≤ n
    pub from : start ≤ m
    pub size : m + length bs ≡ stop
    pub at : drop m b ≡ bs ++ zs
    pub even : is_even (backslashes_before b m) ≡ true
    pub utf8 : IsUtf8 bs

  -- pieces up to what is left, for characters of which the string is the UTF-8
  pub record ArePiecesRead (bs : List ℕ) (r : List ℕ × List ℕ) : Type 0 where
    pub own : List ℕ
    pub characters : List ℕ
    pub whole : bs ≡ own ++ r.1
    pub pieces : ArePieces own characters
    pub string : r.0 ≡ encode_utf8_all characters

  -- A piece and those after it are pieces.
  pieces-step : (n m : ℕ) (bs : List ℕ) → ((k : ℕ) (us : List ℕ) → IsContent n k us → ArePiecesRead us (read_pieces 0 us))
      → IsContent (suc n) m bs → HasPiece bs → ArePiecesRead bs (read_pieces 0 bs)
  pieces-step n m bs after h p = subst (ArePiecesRead bs) (sym same) (record {
    own = p.piece ++ more.own;
    characters = p.character ∷ more.characters;
    whole = p.whole ∙ ap (λ us. p.piece ++ us) more.whole ∙ sym (append_assoc p.piece more.own rest.1);
    pieces = (p.piece, more.own, refl, p.is, more.pieces);
    string = ap (λ s. encode_utf8 p.character ++ s) more.string;
  })
    where
      rest : List ℕ × List ℕ
      rest = read_pieces 0 p.after

      same : ◌≡◌ {A = List ℕ × List ℕ} (read_pieces 0 bs) (encode_utf8 p.character ++ rest.0, rest.1)
      same = ap (read_pieces 0) p.whole ∙ read_piece p.piece p.after p.character p.is

      passed : Passed b m p.piece (p.after ++ zs)
      passed = pass_piece b m p.piece (p.after ++ zs) p.character p.is
          (h.at ∙ ap (λ us. us ++ zs) p.whole ∙ append_assoc p.piece p.after zs) h.even

      whole : length bs ≡ length p.piece + length p.after
      whole = ap length p.whole ∙ length-append p.piece p.after

      more : ArePiecesRead p.after rest
      more = after passed.end p.after (record {
        short = omega (arith, h.short, whole, p.some);
        from = omega (arith, h.from, passed.at);
        size = omega (arith, h.size, whole, passed.at);
        at = passed.rest;
        even = (passed.quiet).even;
        utf8 = p.utf8 h.utf8;
      })

  -- Nothing is read where nothing is read first.
  nothing : (bs : List ℕ) → read_pieces 0 bs ≡ ([], bs) → ArePiecesRead bs (read_pieces 0 bs)
  nothing bs e = subst (ArePiecesRead bs) (sym e) (record { own = []; characters = []; whole = refl; pieces = refl; string = refl })

  -- What is read is pieces.
  pub pieces-read : (n m : ℕ) (bs : List ℕ) → IsContent n m bs → ArePiecesRead bs (read_pieces 0 bs)
  unfolding read_pieces
  pieces-read n m [] h = nothing [] refl
  pieces-read zero m (x ∷ bs) h = absurd (omega (arith, h.short))
  pieces-read (suc n) m (x ∷ bs) h = elim (first-piece m x bs h.from (omega (arith, h.size)) h.at h.even h.utf8) [
    | inl none ↦ nothing (x ∷ bs) none
    | inr p ↦ pieces-step n m (x ∷ bs) (pieces-read n) h p
  ]
