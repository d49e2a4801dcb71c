-- The content of a string, byte by byte; it is what stands before the closing quote.
use Rattle.std.proofs.Common.{◌≡◌, refl, sym, ◌∙◌, ap, subst, ℕ, suc, ◌+◌, ◌-◌, ◌<◌, ◌≤◌, inl, inr, List, [], ◌∷◌, length, take}
use Rattle.std.proofs.Common.{drop, get_or, Bool, true, false, cond, not, ◌&&◌, nat_eq, arith}
use Rattle.std.specs.Prelude.{if◌then◌else◌, slice_range}
use Rattle.std.specs.List.{position_or_len, range_with_len}
use Rattle.std.proofs.lemmas.Bool.{cases_Bool, cond-true, cond-false, and_right, false≢true}
use Rattle.std.proofs.lemmas.List.{length-drop, drop_more, get_or_default}
use Rattle.simd_json_parts.specs.Bytes.{quote, byte_at}
use Rattle.simd_json_parts.specs.Positions.{is_even, backslashes_before, is_real_quote}
use Rattle.simd_json_parts.specs.StringAt.{closing_quote, read_pieces, string_read, string_at}
use Rattle.simd_json_scalars.specs.StringContent.{content_from, content}
use Rattle.simd_json_parts.proofs.Lists.Parity.{is_even-suc}
use Rattle.simd_json_parts.proofs.Positions.Scan.{range-step}
use Rattle.simd_json_parts.proofs.Lists.Drops.{drop-head, drop-tail, drop-inside}

-- ---- byte by byte

-- of no bytes, none
pub content-nil : content [] ≡ []
unfolding content_from
content-nil = refl

-- a quote ends it
pub content-quote : (xs : List ℕ) → content (34 ∷ xs) ≡ []
unfolding content_from
content-quote xs = refl

-- a plain byte is of it
pub content-byte : (x : ℕ) (xs : List ℕ) → nat_eq x 34 ≡ false → nat_eq x 92 ≡ false → content (x ∷ xs) ≡ x ∷ content xs
unfolding content_from
content-byte x xs nq nb = cond-false (nat_eq x 34) _ _ nq ∙ ap (λ t. x ∷ content_from t xs) nb

-- a backslash and the byte after it are of it
pub content-escape : (y : ℕ) (ys : List ℕ) → content (92 ∷ y ∷ ys) ≡ 92 ∷ y ∷ content ys
unfolding content_from
content-escape y ys = refl

-- so is a backslash after which nothing stands
pub content-dangling : content (92 ∷ []) ≡ 92 ∷ []
unfolding content_from
content-dangling = refl

-- a test and the truth
and-true : (t : Bool) → (t && true) ≡ t
and-true true = refl
and-true false = refl

-- with the flag of an escape that is under way
pub content_from-next : (escaped : Bool) (x : ℕ) (xs : List ℕ) → (nat_eq x 34 && not escaped) ≡ false
    → content_from escaped (x ∷ xs) ≡ x ∷ content_from (nat_eq x 92 && not escaped) xs
unfolding content_from
content_from-next true x xs e = ap (λ t. x ∷ content_from t xs) (sym (and_right (nat_eq x 92) false refl))
content_from-next false x xs e = cond-false (nat_eq x 34) [] _ (sym (and-true (nat_eq x 34)) ∙ e)
    ∙ ap (λ t. x ∷ content_from t xs) (sym (and-true (nat_eq x 92)))

-- ---- and by real quotes

-- how far the next real quote is from index k on
abbrev ahead : List ℕ → ℕ → ℕ
ahead b k = position_or_len (is_real_quote b) (range_with_len k (length b - k))

-- past the end there is none
ahead-end : (b : List ℕ) (k : ℕ) → length b ≤ k → ahead b k ≡ 0
ahead-end b k l = let none : length b - k ≡ 0 = omega arith in ap (λ n. position_or_len (is_real_quote b) (range_with_len k n)) none

-- one index further
ahead-step : (b : List ℕ) (k : ℕ) → k < length b → ahead b k ≡ cond (not (is_real_quote b k)) (1 + ahead b (suc k)) 0
ahead-step b k l = ap (position_or_len (is_real_quote b)) (range-step k (length b) l)

-- a real quote is the next
ahead-quote : (b : List ℕ) (k : ℕ) → k < length b → is_real_quote b k ≡ true → ahead b k ≡ 0
ahead-quote b k l e = ahead-step b k l ∙ ap (λ t. cond (not t) (1 + ahead b (suc k)) 0) e

-- any other byte is passed
ahead-other : (b : List ℕ) (k : ℕ) → k < length b → is_real_quote b k ≡ false → ahead b k ≡ suc (ahead b (suc k))
ahead-other b k l e =
    let one : 1 + ahead b (suc k) ≡ suc (ahead b (suc k)) = omega arith in
    ahead-step b k l ∙ ap (λ t. cond (not t) (1 + ahead b (suc k)) 0) e ∙ one

-- the run of backslashes, one byte further
parity-next : (b : List ℕ) (k x : ℕ) → byte_at b k ≡ x
    → is_even (backslashes_before b (suc k)) ≡ cond (nat_eq x 92) (not (is_even (backslashes_before b k))) true
unfolding backslashes_before
parity-next b k x e =
    elim (cases_Bool (nat_eq x 92)) [
      | inl h ↦ ap (λ t. is_even (if t then suc (backslashes_before b k) else 0)) (ap (λ y. nat_eq y 92) e ∙ h)
          ∙ is_even-suc (backslashes_before b k) ∙ sym (ap (λ t. cond t (not (is_even (backslashes_before b k))) true) h)
      | inr h ↦ ap (λ t. is_even (if t then suc (backslashes_before b k) else 0)) (ap (λ y. nat_eq y 92) e ∙ h)
          ∙ sym (ap (λ t. cond t (not (is_even (backslashes_before b k))) true) h)
    ]

-- whether a byte is a real quote, determined by the byte and the parity of the run before it
real-at : (b : List ℕ) (k x : ℕ) (t u : Bool) → byte_at b k ≡ x → nat_eq x 34 ≡ t → is_even (backslashes_before b k) ≡ u
    → is_real_quote b k ≡ (t && u)
unfolding is_real_quote
real-at b k x t u e f g = ap (λ y. nat_eq y 34 && is_even (backslashes_before b k)) e
    ∙ ap (λ v. v && is_even (backslashes_before b k)) f ∙ ap (λ v. t && v) g

-- the bytes up to the next real quote are these
record Reaches (b : List ℕ) (k : ℕ) (bs : List ℕ) : Type 0 where
  bytes : take (ahead b k) (drop k b) ≡ bs
  size : ahead b k ≡ length bs

-- where a real quote stands, or the end, there are no bytes
reach-none : (b : List ℕ) (k : ℕ) → ahead b k ≡ 0 → Reaches b k []
reach-none b k e = record { bytes = ap (λ n. take n (drop k b)) e; size = e }

-- any other byte is one more
reach-more : (b : List ℕ) (k x : ℕ) (xs bs : List ℕ) → drop k b ≡ x ∷ xs → is_real_quote b k ≡ false
    → Reaches b (suc k) bs → Reaches b k (x ∷ bs)
reach-more b k x xs bs e other more =
    let one : ahead b k ≡ suc (ahead b (suc k)) = ahead-other b k (drop-inside k b x xs e) other in
    let after : drop (suc k) b ≡ xs = drop-tail k b x xs e in
    record {
      bytes = ap (λ n. take n (drop k b)) one ∙ ap (take (suc (ahead b (suc k)))) e
          ∙ ap (λ us. x ∷ take (ahead b (suc k)) us) (sym after) ∙ ap (λ us. x ∷ us) more.bytes;
      size = one ∙ ap suc more.size;
    }

-- a choice between two truths
same-both : (t : Bool) → cond t true true ≡ true
same-both true = refl
same-both false = refl

-- a choice that turns a test round
negated : (t : Bool) → cond t false true ≡ not t
negated true = refl
negated false = refl

-- From an index on, the content is what stands before the next real quote.
content-ahead : (b : List ℕ) (k : ℕ) (xs : List ℕ) (escaped : Bool) → drop k b ≡ xs → is_even (backslashes_before b k) ≡ not escaped
    → Reaches b k (content_from escaped xs)
unfolding content_from
content-ahead b k [] escaped e even = reach-none b k (ahead-end b k (omega (arith, ap length e, length-drop k b)))
content-ahead b k (x ∷ xs) true e even =
    let here : byte_at b k ≡ x = drop-head k b x xs e in
    let other : is_real_quote b k ≡ false = real-at b k x (nat_eq x 34) false here refl even ∙ and_right (nat_eq x 34) false refl in
    let next : is_even (backslashes_before b (suc k)) ≡ true =
    parity-next b k x here ∙ ap (λ t. cond (nat_eq x 92) (not t) true) even ∙ same-both (nat_eq x 92) in
    reach-more b k x xs _ e other (content-ahead b (suc k) xs false (drop-tail k b x xs e) next)
content-ahead b k (x ∷ xs) false e even =
    let here : byte_at b k ≡ x = drop-head k b x xs e in
    let next : is_even (backslashes_before b (suc k)) ≡ not (nat_eq x 92) =
    parity-next b k x here ∙ ap (λ t. cond (nat_eq x 92) (not t) true) even ∙ negated (nat_eq x 92) in
    let more : Reaches b (suc k) (content_from (nat_eq x 92) xs) = content-ahead b (suc k) xs (nat_eq x 92) (drop-tail k b x xs e) next in
    elim (cases_Bool (nat_eq x 34)) [
      | inl h ↦ subst (Reaches b k) (sym (cond-true (nat_eq x 34) [] (x ∷ content_from (nat_eq x 92) xs) h))
          (reach-none b k (ahead-quote b k (drop-inside k b x xs e) (real-at b k x true true here h even)))
      | inr h ↦ subst (Reaches b k) (sym (cond-false (nat_eq x 34) [] (x ∷ content_from (nat_eq x 92) xs) h))
          (reach-more b k x xs _ e (real-at b k x false true here h even) more)
    ]

-- ---- a string at an index

-- An opening quote is no backslash: what stands before it does not matter to the bytes after it.
after-quote : (b : List ℕ) (i : ℕ) → byte_at b i ≡ 34 → Reaches b (suc i) (content (drop (suc i) b))
after-quote b i e = content-ahead b (suc i) (drop (suc i) b) false refl (parity-next b i 34 e)

-- A string ends after its content,
pub closing_quote-content : (b : List ℕ) (i : ℕ) → byte_at b i ≡ 34 → closing_quote b i ≡ suc i + length (content (drop (suc i) b))
unfolding closing_quote
closing_quote-content b i e = let r : Reaches b (suc i) (content (drop (suc i) b)) = after-quote b i e in ap (λ n. suc i + n) r.size

-- and its content is read.
pub string_at-content : (b : List ℕ) (i : ℕ) → byte_at b i ≡ 34
    → let bs : List ℕ = content (drop (suc i) b) in string_at b i ≡ string_read (read_pieces 0 bs) (suc i + length bs)
unfolding string_at
string_at-content b i e =
    let r : Reaches b (suc i) (content (drop (suc i) b)) = after-quote b i e in
    let size : suc i + ahead b (suc i) - suc i ≡ ahead b (suc i) = omega arith in
    let closing : closing_quote b i ≡ suc i + ahead b (suc i) = closing_quote-content b i e ∙ ap (λ n. suc i + n) (sym r.size) in
    let inside : slice_range b (suc i) (closing_quote b i) ≡ content (drop (suc i) b) =
    ap (λ n. take (n - suc i) (drop (suc i) b)) closing ∙ ap (λ n. take n (drop (suc i) b)) size ∙ r.bytes in
    ap (λ us. string_read (read_pieces 0 us) (closing_quote b i)) inside
    ∙ ap (string_read (read_pieces 0 (content (drop (suc i) b)))) (closing_quote-content b i e)

-- ---- a search for the closing quote, by index

-- a byte that does not close is of the content,
pub content-scanned : (b : List ℕ) (i : ℕ) (escaped : Bool) → i < length b → (nat_eq (get_or b i 0) 34 && not escaped) ≡ false
    → i + length (content_from escaped (drop i b))
    ≡ i + 1 + length (content_from (nat_eq (get_or b i 0) 92 && not escaped) (drop (i + 1) b))
content-scanned b i escaped l e =
    let size : length (content_from escaped (drop i b))
    ≡ suc (length (content_from (nat_eq (get_or b i 0) 92 && not escaped) (drop (i + 1) b))) =
    ap (λ us. length (content_from escaped us)) (drop_more b i 0 l)
    ∙ ap length (content_from-next escaped (get_or b i 0) (drop (i + 1) b) e) in
    omega arith

-- at a byte that closes, none of the content is left,
content-found : (b : List ℕ) (i : ℕ) (escaped : Bool) → i < length b → (nat_eq (get_or b i 0) 34 && not escaped) ≡ true
    → length (content_from escaped (drop i b)) ≡ 0
unfolding content_from
content-found b i true l e = absurd (false≢true (sym (and_right (nat_eq (get_or b i 0) 34) false refl) ∙ e))
content-found b i false l e = ap (λ us. length (content us)) (drop_more b i 0 l)
    ∙ ap length (cond-true (nat_eq (get_or b i 0) 34) [] _ (sym (and-true (nat_eq (get_or b i 0) 34)) ∙ e))

-- and one that does is the closing quote.
pub content-closes : (b : List ℕ) (i : ℕ) (escaped : Bool) → get_or b 0 0 ≡ quote
    → 1 + length (content (drop 1 b)) ≡ i + length (content_from escaped (drop i b)) → i < length b
    → (nat_eq (get_or b i 0) 34 && not escaped) ≡ true → (byte_at b 0 ≡ quote) × (closing_quote b 0 < length b)
content-closes b i escaped first passed l e =
    let opening : byte_at b 0 ≡ quote = get_or_default b 0 32 0 (omega arith) ∙ first in
    (opening, omega (arith, closing_quote-content b 0 opening, passed, content-found b i escaped l e))
