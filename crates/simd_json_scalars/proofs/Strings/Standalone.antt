-- A string is determined by the bytes from its opening quote on.
use Rattle.std.proofs.Common.{◌≡◌, refl, sym, ◌∙◌, ap, ℕ, zero, suc, ◌+◌, ◌-◌, ◌<◌, ◌≤◌, inl, inr, List, [], ◌∷◌, length, drop}
use Rattle.std.proofs.Common.{get_or, Bool, true, false, not, ◌||◌, IsTrue, IsFalse, arith}
use Rattle.std.specs.Prelude.{Option, Some, None, Ok, Err, IsUtf8}
use Rattle.std.proofs.lemmas.Bool.{cases_Bool, cases_lt, false≢true}
use Rattle.std.proofs.lemmas.List.{drop-drop, get_or-drop, get_or_default}
use Rattle.std.proofs.lemmas.Str.{IsUtf8-drop, IsCharBoundary-before_ascii}
use Rattle.simd_json_parts.specs.Bytes.{quote, byte_at}
use Rattle.simd_json_parts.specs.Positions.{is_inside, is_real_quote, has_control_inside}
use Rattle.simd_json_parts.specs.InputFaults.{has_bad_string}
use Rattle.simd_json_parts.specs.StringAt.{closing_quote, escape_fault, with_piece, piece_at, read_pieces, string_read, string_at}
use Rattle.simd_json_scalars.specs.StringContent.{content}
use Rattle.simd_json_scalars.specs.StringRead.{further}
use Rattle.simd_json_parts.proofs.Positions.Boundaries.{closing_quote-next}
use Rattle.simd_json_parts.proofs.Positions.Scan.{NoneBetween, is_closed, is_closed-through, is_inside-at}
use Rattle.simd_json_scalars.proofs.Strings.Content.{closing_quote-content, string_at-content}

-- what is left of a content is no longer than all of it
left-le : (skip : ℕ) (bs : List ℕ) → length (read_pieces skip bs).1 ≤ length bs
unfolding read_pieces
left-le skip [] = omega arith
left-le (suc skip) (x ∷ xs) = let h : length (read_pieces skip xs).1 ≤ length xs = left-le skip xs in omega arith
left-le zero (x ∷ xs) = piece (piece_at (x ∷ xs)) (λ n. left-le n xs)
  where
    piece : (o : Option (List ℕ × ℕ)) → ((n : ℕ) → length (read_pieces n xs).1 ≤ length xs)
        → length (with_piece o (x ∷ xs) (λ n. read_pieces n xs)).1 ≤ length (x ∷ xs)
    piece None more = omega arith
    piece (Some p) more = let h : length (read_pieces p.1 xs).1 ≤ length xs = more p.1 in omega arith

-- what is read ends, or fails, so much further on
further-read : (i n : ℕ) (read : List ℕ × List ℕ) → length read.1 ≤ n → string_read read (suc i + n) ≡ further i (string_read read (1 + n))
further-read i n (string, []) l = let end : suc (suc i + n) ≡ i + suc (1 + n) = omega arith in ap (λ m. Ok (string, m)) end
further-read i n (string, x ∷ left) l =
    let place : suc i + n - suc (length left) ≡ i + (1 + n - suc (length left)) = omega arith in
    ap (λ m. Err (escape_fault m (byte_at left 0))) place

-- the bytes after an opening quote
after-opening : (b : List ℕ) (i : ℕ) → drop (suc i) b ≡ drop 1 (drop i b)
after-opening b i = let next : i + 1 ≡ suc i = omega arith in ap (λ n. drop n b) (sym next) ∙ sym (drop-drop 1 i b)

-- the quote is the first of its bytes
opening : (b : List ℕ) (i : ℕ) → byte_at b i ≡ quote → byte_at (drop i b) 0 ≡ 34
opening b i e = let same : i + 0 ≡ i = omega arith in get_or-drop i b 0 32 ∙ ap (byte_at b) same ∙ e

-- So a string is the same wherever its bytes stand,
pub string_at-further : (b : List ℕ) (i : ℕ) → byte_at b i ≡ quote → string_at b i ≡ further i (string_at (drop i b) 0)
string_at-further b i e =
    let bs : List ℕ = content (drop 1 (drop i b)) in
    string_at-content b i e
    ∙ ap (λ us. string_read (read_pieces 0 (content us)) (suc i + length (content us))) (after-opening b i)
    ∙ further-read i (length bs) (read_pieces 0 bs) (left-le 0 bs)
    ∙ ap (further i) (sym (string_at-content (drop i b) 0 (opening b i e)))

-- and so is its closing quote.
pub closing_quote-further : (b : List ℕ) (i : ℕ) → byte_at b i ≡ quote → closing_quote b i ≡ i + closing_quote (drop i b) 0
closing_quote-further b i e =
    let bs : List ℕ = content (drop 1 (drop i b)) in
    let sum : suc i + length bs ≡ i + (1 + length bs) = omega arith in
    closing_quote-content b i e ∙ ap (λ us. suc i + length (content us)) (after-opening b i) ∙ sum
    ∙ ap (λ n. i + n) (sym (closing_quote-content (drop i b) 0 (opening b i e)))

-- A character may begin at a quote.
pub utf8-opening : (b : List ℕ) (i : ℕ) → i < length b → byte_at b i ≡ quote → IsUtf8 b → IsUtf8 (drop i b)
utf8-opening b i l e utf8 =
    let ascii : get_or b i 0 < 128 = omega (arith, get_or_default b i 0 32 l, e) in
    IsUtf8-drop b i utf8 (IsCharBoundary-before_ascii b i l ascii)

-- ---- where all strings are closed

-- no string is bad only if all are closed
all-closed : (t u : Bool) → (not t || u) ≡ false → t ≡ true
all-closed true u e = refl
all-closed false u e = absurd (false≢true (sym e))

-- inside, a string is open
is-open : (b : List ℕ) (i : ℕ) → is_inside b i ≡ true → is_closed b (suc i) ≡ false
is-open b i inside =
    elim (cases_Bool (is_closed b (suc i))) [ inl h ↦ absurd (false≢true (sym (is_inside-at b i true h) ∙ inside)) | inr h ↦ h ]

-- Where no string is bad, a string that is opened is closed.
pub closing_quote-inside : (b : List ℕ) (i : ℕ) → i < length b → IsTrue (is_inside b i) → IsFalse (has_bad_string b)
    → closing_quote b i < length b
closing_quote-inside b i l inside good =
    elim (cases_lt (closing_quote b i) (length b)) [
      | inl within ↦ within
      | inr beyond ↦
          let none : NoneBetween (is_real_quote b) (suc i) (length b) = λ j g h. (closing_quote-next b i).1 j g (omega arith) in
          let even : is_closed b (length b) ≡ true = all-closed (is_closed b (length b)) (has_control_inside b) good in
          absurd (false≢true (sym (is-open b i inside) ∙ sym (is_closed-through b (suc i) (length b) (omega arith) none) ∙ even))
    ]
