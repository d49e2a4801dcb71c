-- Where tokens can begin and end: what a position is there, and that no position lies within a token.
use Rattle.std.proofs.Common.{◌≡◌, refl, sym, ◌∙◌, ap, subst, ℕ, zero, suc, ◌+◌, ◌-◌, ◌<◌, ◌≤◌, ◌⊎◌, inl, inr, List, ◌++◌, length}
use Rattle.std.proofs.Common.{drop, get_or, Bool, true, false, not, ◌&&◌, ◌||◌, ◌==◌, arith}
use Rattle.std.proofs.lemmas.Bool.{cases_Bool, cases_lt, eqb-true, false≢true, and_from, and_parts, and_left, or_from, or_parts}
use Rattle.std.proofs.lemmas.Bool.{or_left, or_right, or_cases, cond-false}
use Rattle.std.proofs.lemmas.Bool.Decides.{nat_tests}
use Rattle.std.proofs.lemmas.List.{get_or-drop, get_or_append_left}
use Rattle.std.proofs.lemmas.List.FromFn.{get_or-range_with_len, length-range_with_len}
use Rattle.std.proofs.lemmas.List.Sums.{prefix_len-le-length, fails_before_first, passes_at_first}
use Rattle.std.specs.Char.{is_digit}
use Rattle.std.specs.List.{All, position_or_len, range_with_len}
use Rattle.simd_json_parts.specs.StringAt.{closing_quote}
use Rattle.simd_json_parts.specs.Bytes.{quote, backslash, is_whitespace, is_structural, is_terminator, byte_at}
use Rattle.simd_json_parts.specs.Positions.{is_even, backslashes_before, is_real_quote, is_inside, is_fresh, is_position}
use Rattle.simd_json_parts.proofs.Positions.Scan.{NoneBetween, is_closed, is_closed-quote, is_closed-other, is_closed-through}
use Rattle.simd_json_parts.proofs.Positions.Scan.{is_inside-at, is_position-picks}

-- no string is open before index k, and a token can begin there
pub record Boundary (b : List ℕ) (k : ℕ) : Type 0 where
  pub closed : is_closed b k ≡ true
  pub free : (is_terminator (byte_at b k) ≡ true) ⊎ (is_fresh b k ≡ true)

-- a token stands from index k up to `end`: no index of it but k is a position, and another token can begin after it
pub record EndsBefore (b : List ℕ) (k end : ℕ) : Type 0 where
  pub after : k < end
  pub none : NoneBetween (is_position b) (suc k) end
  pub boundary : end < length b → Boundary b end

-- ---- bytes

-- a structural character, whitespace or a quote
abbrev pub is_special : ℕ → Bool
is_special c = is_terminator c || (c == quote)

-- a byte that passes a test is not one that fails it
pub apart : (test : ℕ → Bool) (x n : ℕ) → test x ≡ true → test n ≡ false → (x == n) ≡ false
apart test x n good bad =
    elim (cases_Bool (x == n)) [ inl h ↦ absurd (false≢true (sym bad ∙ ap test (sym (eqb-true x n h)) ∙ good)) | inr h ↦ h ]

-- so a digit is no byte that is none
pub no_digit : (x n : ℕ) → is_digit x 16 ≡ true → is_digit n 16 ≡ false → (x == n) ≡ false
no_digit x n good bad = apart (λ c. is_digit c 16) x n good bad

is_structural-space : (x : ℕ) → is_whitespace x ≡ true → is_structural x ≡ false
is_structural-space x h = grind (arith, nat_tests)

pub no_real_quote : (b : List ℕ) (i : ℕ) → (byte_at b i == quote) ≡ false → is_real_quote b i ≡ false
unfolding is_real_quote
no_real_quote b i e = and_left _ _ e

-- What ends a token is no backslash, and so none stands before a fresh index.
no_backslash : (b : List ℕ) (i : ℕ) → is_fresh b (suc i) ≡ true → (byte_at b i == backslash) ≡ false
unfolding is_real_quote
no_backslash b i fresh =
    elim (or_cases (is_whitespace (byte_at b i) || (is_structural (byte_at b i) && not (is_inside b i))) (is_real_quote b i) fresh) [
      | inl h ↦ elim (or_cases _ _ h) [
        | inl space ↦ apart is_whitespace (byte_at b i) backslash space refl
        | inr structural ↦ apart is_structural (byte_at b i) backslash (and_parts _ _ structural).0 refl
      ]
      | inr real ↦ apart (λ x. x == quote) (byte_at b i) backslash (and_parts _ _ real).0 refl
    ]

pub backslashes_before-fresh : (b : List ℕ) (k : ℕ) → is_fresh b k ≡ true → backslashes_before b k ≡ 0
unfolding backslashes_before
backslashes_before-fresh b zero fresh = refl
backslashes_before-fresh b (suc i) fresh = cond-false (byte_at b i == backslash) (suc (backslashes_before b i)) 0 (no_backslash b i fresh)

pub is_real_quote-fresh : (b : List ℕ) (k : ℕ) → is_fresh b k ≡ true → (byte_at b k == quote) ≡ true → is_real_quote b k ≡ true
unfolding is_real_quote
is_real_quote-fresh b k fresh e = and_from _ _ e (ap is_even (backslashes_before-fresh b k fresh))

-- The closing quote of a string at index k is the next real quote, if there is one.
pub closing_quote-next : (b : List ℕ) (k : ℕ)
    → (k < closing_quote b k) × NoneBetween (is_real_quote b) (suc k) (closing_quote b k)
    × (closing_quote b k < length b → is_real_quote b (closing_quote b k) ≡ true)
unfolding closing_quote
closing_quote-next b k = (omega arith, none, real)
  where
    after : List ℕ
    after = range_with_len (suc k) (length b - suc k)

    n : ℕ
    n = position_or_len (is_real_quote b) after

    size : length after ≡ length b - suc k
    size = length-range_with_len (suc k) (length b - suc k)

    short : n ≤ length after
    short = prefix_len-le-length (λ i. not (is_real_quote b i)) after

    at : (i : ℕ) → i < length b - suc k → get_or after i 0 ≡ suc k + i
    at i h = get_or-range_with_len (suc k) (length b - suc k) i 0 h

    none : NoneBetween (is_real_quote b) (suc k) (suc k + n)
    none j g h =
        let i : ℕ = j - suc k in
        let there : get_or after i 0 ≡ j = omega (arith, at i, size, short) in
        ap (is_real_quote b) (sym there) ∙ fails_before_first (is_real_quote b) after i 0 (omega arith)

    real : suc k + n < length b → is_real_quote b (suc k + n) ≡ true
    real h = ap (is_real_quote b) (sym (at n (omega arith))) ∙ passes_at_first (is_real_quote b) after 0 (omega (arith, size))

-- ---- what stands at a boundary

module _ (b : List ℕ) (k : ℕ) (at : Boundary b k) where
  -- a byte that is no quote
  module _ (other : (byte_at b k == quote) ≡ false) where
    real-other : is_real_quote b k ≡ false
    real-other = no_real_quote b k other

    closed-other : is_closed b (suc k) ≡ true
    closed-other = is_closed-other b k real-other ∙ at.closed

    inside-other : is_inside b k ≡ false
    inside-other = is_inside-at b k true closed-other

  -- Whitespace is no position, and a token can begin after it.
  pub is_position-space : is_whitespace (byte_at b k) ≡ true → is_position b k ≡ false
  is_position-space space =
      let other : (byte_at b k == quote) ≡ false = apart is_whitespace (byte_at b k) quote space refl in
      is_position-picks b k false false false true _ (real-other other) (inside-other other)
      (is_structural-space (byte_at b k) space) space refl

  pub boundary-space : is_whitespace (byte_at b k) ≡ true → Boundary b (suc k)
  boundary-space space =
      let other : (byte_at b k == quote) ≡ false = apart is_whitespace (byte_at b k) quote space refl in
      record { closed = closed-other other; free = inr (or_left _ _ (or_left _ _ space)) }

  -- A structural character is a position, and a token by itself.
  pub ends-structural : is_structural (byte_at b k) ≡ true → EndsBefore b k (suc k)
  ends-structural structural =
      let other : (byte_at b k == quote) ≡ false = apart is_structural (byte_at b k) quote structural refl in
      record {
        after = omega arith;
        none = λ j g h. absurd (omega arith);
        boundary = λ _. record {
          closed = closed-other other;
          free = inr (or_left _ _ (or_right _ _ (and_from _ _ structural (ap not (inside-other other)))));
        };
      }

  -- Where neither a structural character nor whitespace stands, the index is fresh, and so a quote there is real.
  module _ (plain : is_terminator (byte_at b k) ≡ false) where
    fresh-plain : is_fresh b k ≡ true
    fresh-plain = elim at.free [ inl h ↦ absurd (false≢true (sym plain ∙ h)) | inr h ↦ h ]

    module _ (e : (byte_at b k == quote) ≡ true) where
      real-quote : is_real_quote b k ≡ true
      real-quote = is_real_quote-fresh b k fresh-plain e

      open-quote : is_closed b (suc k) ≡ false
      open-quote = is_closed-quote b k real-quote ∙ ap not at.closed

    is_position-plain : is_position b k ≡ true
    is_position-plain =
        elim (cases_Bool (byte_at b k == quote)) [
          | inl e ↦ is_position-picks b k true true _ _ _ (real-quote e) (is_inside-at b k false (open-quote e)) refl refl refl
          | inr other ↦ is_position-picks b k false false false false true (real-other other) (inside-other other)
              (or_parts _ _ plain).0 (or_parts _ _ plain).1 fresh-plain
        ]

  is_position-structural : is_structural (byte_at b k) ≡ true → is_position b k ≡ true
  is_position-structural structural =
      let other : (byte_at b k == quote) ≡ false = apart is_structural (byte_at b k) quote structural refl in
      is_position-picks b k false false true _ _ (real-other other) (inside-other other) structural refl refl

  -- All but whitespace is a position.
  pub is_position-token : is_whitespace (byte_at b k) ≡ false → is_position b k ≡ true
  is_position-token token =
      elim (cases_Bool (is_structural (byte_at b k))) [
        | inl structural ↦ is_position-structural structural
        | inr h ↦ is_position-plain (or_from _ _ h token)
      ]

  -- A string ends after its closing quote.
  module _ (e : (byte_at b k == quote) ≡ true) where
    abbrev close : ℕ
    close = closing_quote b k

    next : (k < close) × NoneBetween (is_real_quote b) (suc k) close × (close < length b → is_real_quote b close ≡ true)
    next = closing_quote-next b k

    plain-quote : is_terminator (byte_at b k) ≡ false
    plain-quote = ap is_terminator (eqb-true (byte_at b k) quote e)

    pub closed-inside : (m : ℕ) → k < m → m ≤ close → is_closed b m ≡ false
    closed-inside m g h = is_closed-through b (suc k) m g (λ j i o. next.1 j i (omega arith)) ∙ open-quote plain-quote e

    closed-after : is_real_quote b close ≡ true → is_closed b (suc close) ≡ true
    closed-after real = is_closed-quote b close real ∙ ap not (closed-inside close next.0 (omega arith))

    none-inside : (j : ℕ) → k < j → j ≤ close → is_real_quote b j ≡ false → is_position b j ≡ false
    none-inside j g h other = is_position-picks b j false true _ _ _ other
        (is_inside-at b j false (is_closed-other b j other ∙ closed-inside j g h)) refl refl refl

    -- also where there is none, and so at the end
    none-close : is_position b close ≡ false
    none-close =
        elim (cases_Bool (is_real_quote b close)) [
          | inl real ↦ is_position-picks b close true false _ _ _ real (is_inside-at b close true (closed-after real)) refl refl refl
          | inr other ↦ none-inside close next.0 (omega arith) other
        ]

    none-string : NoneBetween (is_position b) (suc k) (suc close)
    none-string j g h =
        elim (cases_lt j close) [
          | inl o ↦ none-inside j g (omega arith) (next.1 j g o)
          | inr o ↦ let last : close ≡ j = omega arith in subst (λ i. is_position b i ≡ false) last none-close
        ]

    after-string : suc close < length b → Boundary b (suc close)
    after-string h =
        let real : is_real_quote b close ≡ true = next.2 (omega arith) in
        record { closed = closed-after real; free = inr (or_right _ _ real) }

    pub ends-string : EndsBefore b k (suc (closing_quote b k))
    ends-string = record { after = omega (arith, next.0); none = none-string; boundary = after-string }

  -- What holds no structural character, no whitespace and no quote ends before a structural character or whitespace.
  module _ (end : ℕ) (l : k < end) (plain : NoneBetween (λ j. is_special (byte_at b j)) k end) where
    real-none : NoneBetween (is_real_quote b) k end
    real-none j g h = no_real_quote b j (or_parts _ _ (plain j g h)).1

    closed-through : (m : ℕ) → k ≤ m → m ≤ end → is_closed b m ≡ true
    closed-through m g h = is_closed-through b k m g (λ j i o. real-none j i (omega arith)) ∙ at.closed

    none_of : (j : ℕ) → k ≤ j → j < end → (is_structural (byte_at b j) ≡ false) × (is_whitespace (byte_at b j) ≡ false)
    none_of j g h = or_parts _ _ (or_parts _ _ (plain j g h)).0

    none-plain : NoneBetween (is_position b) (suc k) end
    none-plain zero g h = absurd (omega arith)
    none-plain (suc i) g h =
        let here : (is_structural (byte_at b (suc i)) ≡ false) × (is_whitespace (byte_at b (suc i)) ≡ false) =
        none_of (suc i) (omega arith) h in
        let before : (is_structural (byte_at b i) ≡ false) × (is_whitespace (byte_at b i) ≡ false) =
        none_of i (omega arith) (omega arith) in
        let stale : is_fresh b (suc i) ≡ false =
        or_from _ _ (or_from _ _ before.1 (and_left _ _ before.0)) (real-none i (omega arith) (omega arith)) in
        let outside : is_inside b (suc i) ≡ false = is_inside-at b (suc i) true (closed-through (suc (suc i)) (omega arith) h) in
        is_position-picks b (suc i) false false false false false (real-none (suc i) (omega arith) h) outside here.0 here.1 stale

    ends-plain : is_terminator (byte_at b end) ≡ true → EndsBefore b k end
    ends-plain t = record {
      after = l;
      none = none-plain;
      boundary = λ _. record { closed = closed-through end (omega arith) (omega arith); free = inl t };
    }

  -- So does a list of such bytes that stands at k.
  pub ends-run : (n : ℕ) (xs rest : List ℕ) → drop k b ≡ xs ++ rest → length xs ≡ n → 0 < n → All (λ c. is_special c ≡ false) xs
      → is_terminator (byte_at b (k + n)) ≡ true → EndsBefore b k (k + n)
  ends-run n xs rest e size some plain t = ends-plain (k + n) (omega arith) each t
    where
      byte : (i : ℕ) → i < n → byte_at b (k + i) ≡ byte_at xs i
      byte i h = sym (get_or-drop k b i 32) ∙ ap (λ l. byte_at l i) e ∙ get_or_append_left xs rest 32 i (omega arith)

      each : NoneBetween (λ j. is_special (byte_at b j)) k (k + n)
      each j g h =
          let there : k + (j - k) ≡ j = omega arith in
          ap (λ i. is_special (byte_at b i)) (sym there) ∙ ap is_special (byte (j - k) (omega arith)) ∙ plain (j - k) 32 (omega arith)
