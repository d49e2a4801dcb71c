-- Real quotes and positions, from one index to the next.
use Rattle.std.proofs.Common.{◌≡◌, sym, ◌∙◌, ap, subst, ℕ, zero, suc, ◌+◌, ◌-◌, ◌<◌, ◌≤◌, inl, inr, List, [], ◌∷◌, length, Bool}
use Rattle.std.proofs.Common.{true, false, not, ◌&&◌, ◌||◌, add-zero, filter, arith}
use Rattle.std.specs.List.{range_with_len}
use Rattle.std.proofs.lemmas.Bool.{cases_lt, cond-true, cond-false}
use Rattle.simd_json_parts.specs.Bytes.{is_whitespace, is_structural, byte_at}
use Rattle.simd_json_parts.specs.Positions.{is_even, is_real_quote, real_quotes, is_inside, is_fresh, is_position}
use Rattle.simd_json_parts.proofs.Lists.Parity.{is_even-suc}

-- No index from k up to m passes.
abbrev pub NoneBetween : (ℕ → Bool) → ℕ → ℕ → Type 0
NoneBetween test k m = (j : ℕ) → k ≤ j → j < m → test j ≡ false

-- What no step from k up to m changes is the same at both.
steady : {X : Type 0} (f : ℕ → X) (k m : ℕ) → k ≤ m → ((j : ℕ) → k ≤ j → j < m → f (suc j) ≡ f j) → f m ≡ f k
steady f k m l same = let there : k + (m - k) ≡ m = omega arith in subst (λ i. f i ≡ f k) there (go (m - k) (omega arith))
  where
    go : (n : ℕ) → k + n ≤ m → f (k + n) ≡ f k
    go zero h = ap f (add-zero k)
    go (suc n) h =
        let last : k + suc n ≡ suc (k + n) = omega arith in
        ap f last ∙ same (k + n) (omega arith) (omega arith) ∙ go n (omega arith)

-- ---- real quotes

-- the number of real quotes among the first k indexes is even
abbrev pub is_closed : List ℕ → ℕ → Bool
is_closed b k = is_even (real_quotes b k)

pub is_closed-quote : (b : List ℕ) (i : ℕ) → is_real_quote b i ≡ true → is_closed b (suc i) ≡ not (is_closed b i)
unfolding real_quotes
is_closed-quote b i is =
    ap is_even (cond-true (is_real_quote b i) (suc (real_quotes b i)) (real_quotes b i) is) ∙ is_even-suc (real_quotes b i)

pub is_closed-other : (b : List ℕ) (i : ℕ) → is_real_quote b i ≡ false → is_closed b (suc i) ≡ is_closed b i
unfolding real_quotes
is_closed-other b i is_none = ap is_even (cond-false (is_real_quote b i) (suc (real_quotes b i)) (real_quotes b i) is_none)

-- Where no index is a real quote, nothing opens or closes.
pub is_closed-through : (b : List ℕ) (k m : ℕ) → k ≤ m → NoneBetween (is_real_quote b) k m → is_closed b m ≡ is_closed b k
is_closed-through b k m l none = steady (is_closed b) k m l (λ j g h. is_closed-other b j (none j g h))

-- Inside is where the number up to and including the index is odd.
pub is_inside-at : (b : List ℕ) (i : ℕ) (t : Bool) → is_closed b (suc i) ≡ t → is_inside b i ≡ not t
unfolding is_inside
is_inside-at b i t e = ap not e

-- ---- positions

-- the test of a position, of its parts: a real quote, inside, structural, whitespace, fresh
abbrev pub picks : Bool → Bool → Bool → Bool → Bool → Bool
picks real inside structural white fresh = (real && inside) || (not inside && not real && (structural || (not white && fresh)))

-- A position is determined by these five parts.
pub is_position-picks : (b : List ℕ) (i : ℕ) (real inside structural white fresh : Bool) → is_real_quote b i ≡ real → is_inside b i ≡ inside
    → is_structural (byte_at b i) ≡ structural → is_whitespace (byte_at b i) ≡ white → is_fresh b i ≡ fresh
    → is_position b i ≡ picks real inside structural white fresh
unfolding is_position
is_position-picks b i real inside structural white fresh r n s w f = same picks
  where
    same : (pick : Bool → Bool → Bool → Bool → Bool → Bool)
        → pick (is_real_quote b i) (is_inside b i) (is_structural (byte_at b i)) (is_whitespace (byte_at b i)) (is_fresh b i)
        ≡ pick real inside structural white fresh
    same pick = cc

-- the positions from index k on
abbrev pub positions_from : List ℕ → ℕ → List ℕ
positions_from b k = filter (is_position b) (range_with_len k (length b - k))

pub positions_from-end : (b : List ℕ) (k : ℕ) → length b ≤ k → positions_from b k ≡ []
positions_from-end b k l = let none : length b - k ≡ 0 = omega arith in ap (λ n. filter (is_position b) (range_with_len k n)) none

pub range-step : (k n : ℕ) → k < n → range_with_len k (n - k) ≡ k ∷ range_with_len (suc k) (n - suc k)
range-step k n l =
    let less : n - k ≡ suc (n - suc k) = omega arith in
    let next : k + 1 ≡ suc k = omega arith in
    ap (range_with_len k) less ∙ ap (λ m. k ∷ range_with_len m (n - suc k)) next

pub positions_from-position : (b : List ℕ) (k : ℕ) → k < length b → is_position b k ≡ true
    → positions_from b k ≡ k ∷ positions_from b (suc k)
positions_from-position b k l is =
    ap (filter (is_position b)) (range-step k (length b) l)
    ∙ cond-true (is_position b k) (k ∷ positions_from b (suc k)) (positions_from b (suc k)) is

pub positions_from-other : (b : List ℕ) (k : ℕ) → is_position b k ≡ false → positions_from b k ≡ positions_from b (suc k)
positions_from-other b k is_none =
    elim (cases_lt k (length b)) [
      | inl l ↦ ap (filter (is_position b)) (range-step k (length b) l)
          ∙ cond-false (is_position b k) (k ∷ positions_from b (suc k)) (positions_from b (suc k)) is_none
      | inr l ↦ positions_from-end b k l ∙ sym (positions_from-end b (suc k) (omega arith))
    ]

-- What is no position adds none.
pub positions_from-through : (b : List ℕ) (k m : ℕ) → k ≤ m → NoneBetween (is_position b) k m → positions_from b k ≡ positions_from b m
positions_from-through b k m l none = sym (steady (positions_from b) k m l (λ j g h. sym (positions_from-other b j (none j g h))))
