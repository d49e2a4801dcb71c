-- A string that is read at a boundary of an input without a fault stands there, from its opening quote to its closing one, and
-- where it has a fault, the bytes before that are the beginning of a string.
use Rattle.std.proofs.Common.{◌≡◌, refl, sym, ◌∙◌, ap, subst, ℕ, suc, ◌+◌, ◌-◌, ◌<◌, ◌≤◌, inl, inr, List, [], ◌∷◌, ◌++◌, length, take, drop}
use Rattle.std.proofs.Common.{get_or, true, false, ◌==◌, append_assoc, length-append, length-drop, append-nil, false, IsUtf8, arith}
use Rattle.std.specs.Str.{IsCharBoundary}
use Rattle.std.proofs.lemmas.Bool.{cases_Bool, cond_both, cases_lt, and_parts, eqb-true, ltb-false, both_ways}
use Rattle.std.proofs.lemmas.List.{take-append-drop, drop-drop, length-take-le}
use Rattle.std.proofs.lemmas.Str.{IsUtf8-between, IsCharBoundary-after_ascii, IsCharBoundary-before_ascii}
use Rattle.std.proofs.Math.Seq.{drop-cons}
use Rattle.std.specs.Prelude.{encode_utf8_all}
use Rattle.simd_json_parts.specs.Bytes.{quote, byte_at, is_control, lower_u}
use Rattle.simd_json_parts.specs.ErrorKinds.{is_unexpected_token}
use Rattle.simd_json_parts.specs.declared.error.ErrorType.TheVariants.{InvalidEscape, InvalidUnicodeCodepoint}
use Rattle.simd_json_parts.specs.Strings.{ArePieces}
use Rattle.simd_json_parts.specs.Positions.{is_even, is_real_quote, is_inside}
use Rattle.simd_json_parts.specs.StringAt.{closing_quote, read_pieces, string_read, string_at}
use Rattle.simd_json_parts.proofs.Positions.Boundaries.{Boundary, closing_quote-next, closed-inside}
use Rattle.simd_json_parts.proofs.Lists.Drops.{drop-head, drop-through}
use Rattle.simd_json_theorems.proofs.Literals.Quotes.{run_ends}
use Rattle.simd_json_parts.proofs.Positions.Scan.{NoneBetween, is_inside-at}
use Rattle.simd_json_theorems.proofs.Sound.Tokens.{StringStands}
use Rattle.simd_json_theorems.proofs.Sound.FaultsWithin.{StringFault}
use Rattle.simd_json_theorems.proofs.Sound.Strings.{ArePiecesRead, pieces-read}
use Rattle.simd_json_parts.proofs.Positions.CleanInputs.{IsClean, control-inside}

-- the string that opens at a boundary of such an input
module _ (b : List ℕ) (fine : IsClean b) (k : ℕ) (l : k < length b) (at : Boundary b k) (e : (byte_at b k == quote) ≡ true) where
  abbrev close : ℕ
  close = closing_quote b k

  -- the content, and what stands after it
  abbrev content : List ℕ
  content = take (close - suc k) (drop (suc k) b)

  abbrev after : List ℕ
  after = drop close b

  next : (k < close) × NoneBetween (is_real_quote b) (suc k) close × (close < length b → is_real_quote b close ≡ true)
  next = closing_quote-next b k

  -- The number of real quotes is even, so the string is closed.
  closes : close < length b
  closes = elim (cases_lt close (length b)) [ inl h ↦ h | inr h ↦ absurd (both_ways _ (closed-inside b k at e (length b) l h) fine.even) ]

  -- No control byte is inside.
  printed : (j : ℕ) → suc k ≤ j → j < close → 32 ≤ byte_at b j
  printed j g h =
      elim (cases_Bool (is_control (byte_at b j))) [
        | inl control ↦
            let inside : is_inside b j ≡ true = is_inside-at b j false (closed-inside b k at e (suc j) (omega arith) (omega arith)) in
            absurd (both_ways _ fine.plain (control-inside b j (omega (arith, closes)) inside control))
        | inr other ↦ ltb-false (byte_at b j) 32 other
      ]

  -- The quotes and the content stand in a row.
  at_open : drop k b ≡ quote ∷ drop (suc k) b
  at_open = drop-cons b k 32 l ∙ ap (λ y. y ∷ drop (suc k) b) (eqb-true (byte_at b k) quote e)

  at_close : drop close b ≡ quote ∷ drop (suc close) b
  unfolding is_real_quote
  at_close = drop-cons b close 32 closes
      ∙ ap (λ y. y ∷ drop (suc close) b) (eqb-true (byte_at b close) quote (and_parts _ _ (next.2 closes)).0)

  at_content : drop (suc k) b ≡ content ++ after
  at_content =
      let there : suc k + (close - suc k) ≡ close = omega (arith, next.0) in
      sym (take-append-drop (close - suc k) (drop (suc k) b))
      ∙ ap (λ us. content ++ us) (drop-drop (close - suc k) (suc k) b ∙ ap (λ i. drop i b) there)

  size : suc k + length content ≡ close
  size = omega (arith, next.0, closes, length-take-le (close - suc k) (drop (suc k) b) (omega (arith, closes, length-drop (suc k) b)))

  -- The content lies between two bytes of ASCII, so it is UTF-8.
  quote-ascii : (i : ℕ) → i < length b → drop i b ≡ quote ∷ drop (suc i) b → get_or b i 0 < 128
  quote-ascii i h is =
      omega (arith, drop-head i b (get_or b i 0) (drop (suc i) b) (drop-cons b i 0 h), drop-head i b quote (drop (suc i) b) is)

  content-utf8 : IsUtf8 content
  content-utf8 =
      let further : k + 1 ≡ suc k = omega arith in
      IsUtf8-between b (suc k) close fine.utf8 (omega (arith, next.0))
      (subst (λ i. IsCharBoundary b i) further (IsCharBoundary-after_ascii b k fine.utf8 l (quote-ascii k l at_open)))
      (IsCharBoundary-before_ascii b close closes (quote-ascii close closes at_close))

  -- It is read as pieces, up to what is left.
  content-read : ArePiecesRead b (suc k) close after next.1 printed content (read_pieces 0 content)
  content-read = pieces-read b (suc k) close after next.1 printed (length content) (suc k) content (record {
    short = omega arith;
    from = omega arith;
    size = size;
    at = at_content;
    even = ap is_even (run_ends b k 34 (drop (suc k) b) at_open refl);
    utf8 = content-utf8;
  })

  -- So the string stands there, unless something is left.
  read-stands : (r : List ℕ × List ℕ) → ArePiecesRead b (suc k) close after next.1 printed content r
      → StringStands b k (string_read r close)
  read-stands (t, []) h =
      let whole : h.own ≡ content = sym (h.whole ∙ append-nil h.own) in
      record {
        own = quote ∷ (content ++ quote ∷ []);
        split = at_open ∙ ap (λ us. quote ∷ us)
            (at_content ∙ ap (λ us. content ++ us) at_close ∙ sym (append_assoc content (quote ∷ []) (drop (suc close) b)));
        holds = (content, h.characters, refl, subst (λ us. ArePieces us h.characters) whole h.pieces, h.string);
      }
  read-stands (t, x ∷ left) h = tt

  -- A string that is read stands where it is read.
  pub string-stands : StringStands b k (string_at b k)
  unfolding string_at
  string-stands = read-stands (read_pieces 0 content) content-read

  -- What is left begins where the fault is reported, and the pieces before it go on to a string.
  read-fault : (r : List ℕ × List ℕ) → ArePiecesRead b (suc k) close after next.1 printed content r → StringFault b k (string_read r close)
  read-fault (t, []) h = tt
  read-fault (t, x ∷ left) h =
      let there : suc k + length h.own ≡ close - length (x ∷ left) =
      omega (arith, size, ap length h.whole, length-append h.own (x ∷ left)) in
      let split : drop (suc k) b ≡ h.own ++ ((x ∷ left) ++ after) =
      at_content ∙ ap (λ us. us ++ after) h.whole ∙ append_assoc h.own (x ∷ left) after in
      record {
        prefix = quote ∷ h.own;
        rest = quote ∷ [];
        split = at_open ∙ ap (λ us. quote ∷ us) (split
            ∙ ap (λ us. h.own ++ us) (sym (drop-through (suc k) b h.own ((x ∷ left) ++ after) split) ∙ ap (λ i. drop i b) there));
        goes_on = (encode_utf8_all h.characters, (h.own, h.characters, refl, h.pieces, refl));
        kind = cond_both (byte_at left 0 == lower_u) InvalidUnicodeCodepoint InvalidEscape
            (λ kind. is_unexpected_token kind ≡ false) (λ _. refl) (λ _. refl);
      }

  pub string-fault : StringFault b k (string_at b k)
  unfolding string_at
  string-fault = read-fault (read_pieces 0 content) content-read
