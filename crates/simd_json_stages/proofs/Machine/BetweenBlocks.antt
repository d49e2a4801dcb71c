-- No backslash is between the blocks that are listed, so a string that ends before the next one has no escape.
use Rattle.std.proofs.Common.{◌≡◌, ◌∙◌, ap, ℕ, zero, suc, ◌+◌, ◌/◌, ◌<◌, ◌≤◌, inl, inr, refl, List, ◌∷◌, length, get_or, Bool, true, false}
use Rattle.std.proofs.Common.{filter, if◌then◌else◌, arith}
use Rattle.std.specs.List.{range_with_len}
use Rattle.std.proofs.lemmas.Bool.{cases_lt}
use Rattle.simd_json_stages.specs.EscapeBlocks.{blocks_in, holds_backslash, backslash_blocks, listed_start}
use Rattle.simd_json_stages.proofs.Scan.EscapeBlockLaws.{holds_backslash-at}
use Rattle.simd_json_stages.specs.EscapesAhead.{PlainFrom}

-- No number before the first that a filter keeps passes; z is in place of the first if none is kept.
before_first : (p : ℕ → Bool) (a n z k : ℕ) → z ≤ a + n → a ≤ k → k < get_or (filter p (range_with_len a n)) 0 z → p k ≡ false
before_first p a zero z k e f t = absurd (omega arith)
before_first p a (suc n) z k e f t = go (p a) refl (before_first p (a + 1) n z k (omega arith)) t
  where
    go : (u : Bool) → p a ≡ u → (a + 1 ≤ k → k < get_or (filter p (range_with_len (a + 1) n)) 0 z → p k ≡ false)
        → k < get_or (if u then a ∷ filter p (range_with_len (a + 1) n) else filter p (range_with_len (a + 1) n)) 0 z → p k ≡ false
    go true is later t = absurd (omega arith)
    go false is later t = elim (cases_lt a k) [
      | inl l ↦ later (omega arith) t
      | inr r ↦ let here : k ≡ a = omega arith in ap p here ∙ is
    ]

-- Nor does one between two neighbours that it keeps.
between_neighbours : (p : ℕ → Bool) (a n z m k : ℕ) → z ≤ a + n → m < length (filter p (range_with_len a n))
    → get_or (filter p (range_with_len a n)) m z < k
    → k < get_or (filter p (range_with_len a n)) (suc m) z → p k ≡ false
between_neighbours p a zero z m k e l f t = absurd (omega arith)
between_neighbours p a (suc n) z m k e l f t = go (p a) m (filter p (range_with_len (a + 1) n))
    (before_first p (a + 1) n z k (omega arith)) (λ i. between_neighbours p (a + 1) n z i k (omega arith)) l f t
  where
    go : (u : Bool) (m : ℕ) (later : List ℕ) → (a + 1 ≤ k → k < get_or later 0 z → p k ≡ false)
        → ((i : ℕ) → i < length later → get_or later i z < k → k < get_or later (suc i) z → p k ≡ false)
        → let kept : List ℕ = if u then a ∷ later else later in m < length kept → get_or kept m z < k → k < get_or kept (suc m) z
        → p k ≡ false
    go true zero later before between l f t = before (omega arith) t
    go true (suc i) later before between l f t = between i (omega arith) f t
    go false i later before between l f t = between i l f t

-- Before the first listed block there is no backslash.
pub plain-to_first : (b : List ℕ) → PlainFrom b 0 (listed_start b 0)
unfolding backslash_blocks
plain-to_first b j f t e =
    let z = blocks_in (length b) in
    let none : holds_backslash b (j / 64) ≡ false = before_first (holds_backslash b) 0 z z (j / 64) (omega arith) (omega arith)
    (omega (arith, t)) in
    cc (none, holds_backslash-at b j e)

-- Nor is there one between a listed block and the next.
pub plain-to_next : (b : List ℕ) (m : ℕ) → m < length (backslash_blocks b) → PlainFrom b (listed_start b m + 64) (listed_start b (suc m))
unfolding backslash_blocks
plain-to_next b m l j f t e =
    let z = blocks_in (length b) in
    let none : holds_backslash b (j / 64) ≡ false = between_neighbours (holds_backslash b) 0 z z m (j / 64) (omega arith) l
    (omega (arith, f)) (omega (arith, t)) in
    cc (none, holds_backslash-at b j e)
