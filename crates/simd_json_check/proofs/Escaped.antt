-- Where an input is pieces from its first byte on, each string in it is read.
use Rattle.std.proofs.Common.{◌≡◌, refl, sym, ◌∙◌, ap, subst, ℕ, zero, suc, ◌+◌, ◌-◌, ◌<◌, ◌≤◌, inl, inr, List, [], ◌∷◌, length}
use Rattle.std.proofs.Common.{drop, get_or}
use Rattle.std.proofs.Common.{true, false, not, cond, min, nat_eq, ◌&&◌, ◌||◌, ◌==◌, arith}
use Rattle.std.specs.Prelude.{Option, Some, None, Ok}
use Rattle.std.proofs.lemmas.Bool.{cases_lt, cases_eq, eqb-true, ne_eqb, false≢true, and_parts, or_cases}
use Rattle.std.proofs.lemmas.List.{length-drop, drop-drop, drop_more, get_or_default, get_or_past}
use Rattle.simd_json_parts.specs.Bytes.{quote, backslash, is_structural, is_whitespace, byte_at}
use Rattle.simd_json_parts.specs.Positions.{backslashes_before, is_real_quote, is_even, is_inside, is_fresh, is_position, positions}
use Rattle.simd_json_parts.specs.StringAt.{closing_quote, escape_at, piece_at, with_piece, read_pieces, string_read, string_at}
use Rattle.simd_json_parts.proofs.Positions.Boundaries.{closing_quote-next, is_real_quote-fresh}
use Rattle.simd_json_parts.proofs.Positions.Scan.{NoneBetween}
use Rattle.simd_json_parts.proofs.Positions.Order.{Contains-positions}
use Rattle.simd_json_scalars.specs.StringContent.{content}
use Rattle.simd_json_scalars.proofs.Strings.Content.{content-nil, content-quote, content-byte, closing_quote-content, string_at-content}
use Rattle.simd_json_scalars.proofs.Strings.Pieces.{read_byte}
use Rattle.simd_json_scalars.proofs.Strings.Reader.{read_pieces-none}
use Rattle.simd_json_scalars.proofs.Strings.Steps.{PassesPieces, escape-passes, escape-extent}
use Rattle.simd_json_check.specs.Whole.{AreAllPieces, AreStringsRead, PassesFrom}
use Rattle.simd_json_stages.specs.EscapesAhead.{PlainFrom}

-- ---- one piece

none-left : AreAllPieces []
none-left = ap (λ r. r.1) read_pieces-none

some-left : (x : ℕ) (xs : List ℕ) → x ∷ xs ≡ [] → ⊥
some-left x xs e = cc e

-- the bytes of a piece before are passed over
skipped : (n : ℕ) (us : List ℕ) → read_pieces n us ≡ read_pieces 0 (drop n us)
unfolding read_pieces
skipped zero us = refl
skipped (suc n) [] = refl
skipped (suc n) (x ∷ us) = skipped n us

-- a byte that is no backslash
pub byte-left : (x : ℕ) (xs : List ℕ) → nat_eq x 92 ≡ false → (read_pieces 0 (x ∷ xs)).1 ≡ (read_pieces 0 xs).1
byte-left x xs e = ap (λ r. r.1) (read_byte x xs e)

-- an escape
pub escape-left : (xs : List ℕ) (p : List ℕ × ℕ) → escape_at (92 ∷ xs) ≡ Some p
    → (read_pieces 0 (92 ∷ xs)).1 ≡ (read_pieces 0 (drop p.1 xs)).1
unfolding read_pieces piece_at
escape-left xs p e = ap (λ o. (with_piece o (92 ∷ xs) (λ n. read_pieces n xs)).1) e ∙ ap (λ r. r.1) (skipped p.1 xs)

-- a backslash that begins none
stray-left : (xs : List ℕ) → escape_at (92 ∷ xs) ≡ None → (read_pieces 0 (92 ∷ xs)).1 ≡ 92 ∷ xs
unfolding read_pieces piece_at
stray-left xs e = ap (λ o. (with_piece o (92 ∷ xs) (λ n. read_pieces n xs)).1) e

-- ---- up to the next quote

-- the content is pieces, and so is what comes after the quote
pub record GoesOn (us : List ℕ) : Type 0 where
  pub inside : AreAllPieces (content us)
  pub after : AreAllPieces (drop (suc (length (content us))) us)

module _ (n : ℕ) (further : (us : List ℕ) → length us ≤ n → AreAllPieces us → GoesOn us) where
  at-quote : (x : ℕ) (xs : List ℕ) → x ≡ 34 → AreAllPieces (x ∷ xs) → GoesOn (x ∷ xs)
  at-quote x xs e h =
      let none : content (x ∷ xs) ≡ [] = ap (λ y. content (y ∷ xs)) e ∙ content-quote xs in
      record {
        inside = ap (λ us. (read_pieces 0 us).1) none ∙ none-left;
        after =
            ap (λ us. (read_pieces 0 (drop (suc (length us)) (x ∷ xs))).1) none
            ∙ sym (byte-left x xs (ap (λ y. nat_eq y 92) e)) ∙ h;
      }

  at-plain : (x : ℕ) (xs : List ℕ) → length xs ≤ n → nat_eq x 34 ≡ false → nat_eq x 92 ≡ false → AreAllPieces (x ∷ xs) → GoesOn (x ∷ xs)
  at-plain x xs l q s h =
      let more : GoesOn xs = further xs l (sym (byte-left x xs s) ∙ h) in
      let is : content (x ∷ xs) ≡ x ∷ content xs = content-byte x xs q s in
      record {
        inside = ap (λ us. (read_pieces 0 us).1) is ∙ byte-left x (content xs) s ∙ more.inside;
        after = ap (λ us. (read_pieces 0 (drop (suc (length us)) (x ∷ xs))).1) is ∙ more.after;
      }

  at-escape : (y : ℕ) (ys s : List ℕ) (more : ℕ) → suc (length ys) ≤ n → escape_at (92 ∷ y ∷ ys) ≡ Some (s, more)
      → AreAllPieces (92 ∷ y ∷ ys) → GoesOn (92 ∷ y ∷ ys)
  at-escape y ys s more l e h =
      let rest : List ℕ = drop more (y ∷ ys) in
      let p : PassesPieces (92 ∷ y ∷ ys) (suc more) s = escape-passes y ys s more e in
      let next : GoesOn rest = further rest (omega (arith, length-drop more (y ∷ ys)))
      (sym (escape-left (y ∷ ys) (s, more) e) ∙ h) in
      let size : suc (length (content (92 ∷ y ∷ ys))) ≡ suc more + suc (length (content rest)) = omega (arith, p.size) in
      record {
        inside = ap (λ r. r.1) p.read ∙ next.inside;
        after =
            ap (λ k. (read_pieces 0 (drop k (92 ∷ y ∷ ys))).1) size
            ∙ ap (λ us. (read_pieces 0 us).1) (sym (drop-drop (suc (length (content rest))) (suc more) (92 ∷ y ∷ ys)))
            ∙ next.after;
      }

  at-backslash : (us : List ℕ) → length us ≤ n → AreAllPieces (92 ∷ us) → GoesOn (92 ∷ us)
  at-backslash [] l h = absurd (some-left 92 [] (sym (stray-left [] refl) ∙ h))
  at-backslash (y ∷ ys) l h = go (escape_at (92 ∷ y ∷ ys)) refl
    where
      go : (o : Option (List ℕ × ℕ)) → escape_at (92 ∷ y ∷ ys) ≡ o → GoesOn (92 ∷ y ∷ ys)
      go None e = absurd (some-left 92 (y ∷ ys) (sym (stray-left (y ∷ ys) e) ∙ h))
      go (Some (s, more)) e = at-escape y ys s more l e h

pub goes_on : (n : ℕ) (us : List ℕ) → length us ≤ n → AreAllPieces us → GoesOn us
goes_on n [] l h = record {
  inside = ap (λ us. (read_pieces 0 us).1) content-nil ∙ none-left;
  after = none-left;
}
goes_on zero (x ∷ xs) l h = absurd (omega arith)
goes_on (suc n) (x ∷ xs) l h =
    elim (cases_eq x 34) [
      | inl e ↦ at-quote n (goes_on n) x xs e h
      | inr q ↦ elim (cases_eq x 92) [
        | inl e ↦ subst GoesOn (ap (λ y. y ∷ xs) (sym e))
            (at-backslash n (goes_on n) xs (omega arith) (subst AreAllPieces (ap (λ y. y ∷ xs) e) h))
        | inr s ↦ at-plain n (goes_on n) x xs (omega arith) (ne_eqb x 34 q) (ne_eqb x 92 s) h
      ]
    ]

-- ---- from quote to quote

real-byte : (b : List ℕ) (i : ℕ) → is_real_quote b i ≡ true → byte_at b i ≡ 34
unfolding is_real_quote
real-byte b i real = eqb-true (byte_at b i) 34 (and_parts _ _ real).0

-- after a real quote that comes later the bytes are pieces too
later : (n : ℕ) (b : List ℕ) (q i : ℕ) → i ≤ q + n → q < i → byte_at b q ≡ 34 → AreAllPieces (drop (suc q) b) → is_real_quote b i ≡ true
    → i < length b → AreAllPieces (drop (suc i) b)
later zero b q i l f e h real inside = absurd (omega arith)
later (suc n) b q i l f e h real inside =
    elim (cases_lt i close) [
      | inl before ↦ absurd (false≢true (sym (next.1 i (omega arith) before) ∙ real))
      | inr reached ↦ elim (cases_lt close i) [
        | inl before ↦ later n b close i (omega (arith, next.0)) before (quoted before) beyond real inside
        | inr same ↦ let is : close ≡ i = omega arith in subst (λ k. AreAllPieces (drop (suc k) b)) is beyond
      ]
    ]
  where
    close : ℕ
    close = closing_quote b q

    next : (q < close) × NoneBetween (is_real_quote b) (suc q) close × (close < length b → is_real_quote b close ≡ true)
    next = closing_quote-next b q

    beyond : AreAllPieces (drop (suc close) b)
    beyond =
        let us : List ℕ = drop (suc q) b in
        let size : suc q + suc (length (content us)) ≡ suc close = omega (arith, closing_quote-content b q e) in
        ap (λ k. (read_pieces 0 (drop k b)).1) (sym size)
        ∙ ap (λ vs. (read_pieces 0 vs).1) (sym (drop-drop (suc (length (content us))) (suc q) b))
        ∙ (goes_on (length us) us (omega arith) h).after

    quoted : close < i → byte_at b close ≡ 34
    quoted before = real-byte b close (next.2 (omega arith))

-- with a quote before it the first string is as any other
shifted : (b : List ℕ) (i : ℕ) → backslashes_before (34 ∷ b) (suc i) ≡ backslashes_before b i
unfolding backslashes_before
shifted b zero = refl
shifted b (suc i) = ap (λ n. cond (byte_at b i == backslash) (suc n) 0) (shifted b i)

shifted-quote : (b : List ℕ) (i : ℕ) → is_real_quote (34 ∷ b) (suc i) ≡ is_real_quote b i
unfolding is_real_quote
shifted-quote b i = ap (λ n. (byte_at b i == quote) && is_even n) (shifted b i)

-- a position that holds a quote is a real quote
quote-real : (b : List ℕ) (i : ℕ) → is_position b i ≡ true → byte_at b i ≡ quote → is_real_quote b i ≡ true
unfolding is_position
quote-real b i is e =
    elim (or_cases (is_real_quote b i && is_inside b i) _ is) [
      | inl opening ↦ (and_parts _ _ opening).0
      | inr other ↦
          let first : (is_structural (byte_at b i) || (not (is_whitespace (byte_at b i)) && is_fresh b i)) ≡ true =
          (and_parts _ _ other).1 in
          let fresh : is_fresh b i ≡ true = ap (λ x. is_structural x || (not (is_whitespace x) && is_fresh b i)) (sym e) ∙ first in
          is_real_quote-fresh b i fresh (ap (λ x. nat_eq x quote) e)
    ]

module _ (b : List ℕ) (pieces : AreAllPieces b) where
  -- Each string is read.
  string-read : (i : ℕ) → i < length b → is_position b i ≡ true → byte_at b i ≡ quote → (s : List ℕ × ℕ) × (string_at b i ≡ Ok s)
  string-read i l is e =
      let us : List ℕ = drop (suc i) b in
      let real : is_real_quote (34 ∷ b) (suc i) ≡ true = shifted-quote b i ∙ quote-real b i is e in
      let rest : AreAllPieces us = later (suc i) (34 ∷ b) 0 (suc i) (omega arith) (omega arith) refl pieces real (omega arith) in
      let read : (read_pieces 0 (content us)).1 ≡ [] = (goes_on (length us) us (omega arith) rest).inside in
      whole (read_pieces 0 (content us)) (suc i + length (content us)) read (string_at-content b i e)
    where
      whole : (r : List ℕ × List ℕ) (end : ℕ) → r.1 ≡ [] → string_at b i ≡ string_read r end
          → (s : List ℕ × ℕ) × (string_at b i ≡ Ok s)
      whole (t, []) end none is = ((t, suc end), is)
      whole (t, x ∷ left) end none is = absurd (cc none)

  pub strings-read : AreStringsRead b (positions b)
  strings-read k l e =
      let i : ℕ = get_or (positions b) k 0 in
      let there : (i < length b) × (is_position b i ≡ true) = (Contains-positions b i).0 (k, l, get_or_default (positions b) k i 0 l) in
      string-read i there.0 there.1 e

-- ---- along an input

-- an escape lies within the input
pub escape-inside : (us : List ℕ) (p : List ℕ × ℕ) → 2 ≤ length us → byte_at us 0 ≡ 92 → escape_at us ≡ Some p → p.1 < length us
escape-inside [] p l e h = absurd (omega arith)
escape-inside (x ∷ []) p l e h = absurd (omega arith)
escape-inside (x ∷ y ∷ ys) p l e h = (escape-extent y ys p (ap (λ c. escape_at (c ∷ y ∷ ys)) (sym e) ∙ h)).inside

-- beyond the input is nothing
none-behind : (us : List ℕ) (k : ℕ) → length us ≤ k → AreAllPieces (drop k us)
none-behind [] zero l = none-left
none-behind [] (suc k) l = none-left
none-behind (u ∷ us) zero l = absurd (omega arith)
none-behind (u ∷ us) (suc k) l = none-behind us k (omega arith)

-- the bytes up to the one index are no backslashes
pub plain-passes : (n : ℕ) (b : List ℕ) (at end : ℕ) → end ≤ at + n → at ≤ end → PlainFrom b at end → PassesFrom b at end
plain-passes zero b at end l m plain h = let same : end ≡ at = omega arith in subst (λ k. AreAllPieces (drop k b)) same h
plain-passes (suc n) b at end l m plain h = elim (cases_lt at end) [
  | inr reached ↦ let same : end ≡ at = omega arith in subst (λ k. AreAllPieces (drop k b)) same h
  | inl before ↦
      let next : AreAllPieces (drop (at + 1) b) =
      plain-passes n b (at + 1) end (omega arith) (omega arith) (λ j f t. plain j (omega arith) t) h in
      elim (cases_lt at (length b)) [
        | inr past ↦ none-behind b at (omega (arith, past))
        | inl inside ↦
            let other : nat_eq (get_or b at 0) 92 ≡ false =
            ne_eqb (get_or b at 0) 92 (λ e. plain at (omega arith) before (get_or_default b at 32 0 inside ∙ e)) in
            ap (λ us. (read_pieces 0 us).1) (drop_more b at 0 inside) ∙ byte-left (get_or b at 0) (drop (at + 1) b) other ∙ next
      ]
]

pub plain-rest : (b : List ℕ) (at : ℕ) → PlainFrom b at (length b) → AreAllPieces (drop at b)
plain-rest b at plain = elim (cases_lt at (length b)) [
  | inl inside ↦ plain-passes (length b - at) b at (length b) (omega arith) (omega (arith, inside)) plain
      (none-behind b (length b) (omega arith))
  | inr past ↦ none-behind b at (omega (arith, past))
]

-- an escape
pub escape-passed : (b us : List ℕ) (at more : ℕ) (s : List ℕ) → us ≡ drop at b → byte_at us 0 ≡ 92 → 0 < length us
    → escape_at us ≡ Some (s, more) → PassesFrom b at (at + (1 + more))
escape-passed b [] at more s is e l f h = absurd (omega arith)
escape-passed b (x ∷ xs) at more s is e l f h =
    let slash : x ∷ xs ≡ 92 ∷ xs = ap (λ y. y ∷ xs) e in
    let rest : drop more xs ≡ drop (at + (1 + more)) b =
    (let sum : 1 + more ≡ suc more = omega arith in
    ap (λ k. drop k (x ∷ xs)) (sym sum) ∙ ap (drop (1 + more)) is ∙ drop-drop (1 + more) at b) in
    ap (λ us. (read_pieces 0 us).1) (sym is ∙ slash) ∙ escape-left xs (s, more) (ap escape_at (sym slash) ∙ f)
    ∙ ap (λ us. (read_pieces 0 us).1) rest ∙ h

-- beyond the input there is none
pub plain-beyond : (b : List ℕ) (at to : ℕ) → min to (length b) ≤ at → PlainFrom b at to
plain-beyond b at to l j f t e =
    let past : byte_at b j ≡ 32 = get_or_past b j 32 (omega (arith, l)) in
    absurd (omega (arith, past, e))
