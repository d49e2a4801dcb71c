-- The list of the blocks that hold a backslash, one byte further.
use Rattle.std.proofs.Common.{◌≡◌, ◌≢◌, ◌∙◌, ap, subst, ℕ, zero, suc, ◌+◌, ◌-◌, ◌*◌, ◌/◌, ◌<◌, ◌≤◌, List}
use Rattle.std.proofs.Common.{length, get_or, Bool, true, false, ◌==◌, filter, arith}
use Rattle.std.specs.List.{list_any, range_with_len}
use Rattle.std.proofs.lemmas.Bool.{ne_eqb}
use Rattle.std.proofs.lemmas.List.{get_or_past}
use Rattle.std.proofs.lemmas.List.Folds.{list_any_none, list_any_at}
use Rattle.std.proofs.lemmas.List.FromFn.{get_or-range_with_len, length-range_with_len}
use Rattle.simd_json_parts.specs.Bytes.{backslash, byte_at}
use Rattle.simd_json_stages.specs.EscapeBlocks.{blocks_in, holds_backslash, backslash_blocks}
use Rattle.simd_json_parts.proofs.Positions.Order.{Contains-range_with_len, Contains-filter_from}
use Rattle.std.specs.List.{Contains}
use Rattle.simd_json_stages.proofs.Scan.CarryLaws.{filter-next}
use Rattle.simd_json_stages.specs.EscapesAhead.{PlainFrom}

-- Where no number of a range passes a test, `list_any` is false.
pub list_any-none_between : (p : ℕ → Bool) (a n : ℕ) → ((j : ℕ) → a ≤ j → j < a + n → p j ≡ false) → list_any p (range_with_len a n) ≡ false
list_any-none_between p a n none =
    list_any_none p (range_with_len a n) (λ k d l.
    let inside : k < n = omega (arith, length-range_with_len a n) in
    ap p (get_or-range_with_len a n k d inside) ∙ none (a + k) (omega arith) (omega arith))

-- Where some number passes, it is true.
list_any-some_between : (p : ℕ → Bool) (a n j : ℕ) → a ≤ j → j < a + n → p j ≡ true → list_any p (range_with_len a n) ≡ true
list_any-some_between p a n j from to is =
    let there : get_or (range_with_len a n) (j - a) 0 ≡ j = omega (arith, get_or-range_with_len a n (j - a) 0) in
    list_any_at p (range_with_len a n) (j - a) 0 (omega (arith, length-range_with_len a n)) (ap p there ∙ is)

-- A block of which no byte is a backslash holds none.
pub holds_backslash-plain : (b : List ℕ) (k : ℕ) → PlainFrom b (64 * k) (64 * k + 64) → holds_backslash b k ≡ false
unfolding holds_backslash
holds_backslash-plain b k plain = list_any-none_between (λ j. byte_at b j == backslash) (64 * k) 64
    (λ j f t. ne_eqb (byte_at b j) backslash (plain j f t))

-- A block holds each backslash in it.
pub holds_backslash-at : (b : List ℕ) (i : ℕ) → byte_at b i ≡ backslash → holds_backslash b (i / 64) ≡ true
unfolding holds_backslash
holds_backslash-at b i is = list_any-some_between (λ j. byte_at b j == backslash) (64 * (i / 64)) 64 i (omega arith) (omega arith)
    (ap (λ c. c == backslash) is)

-- Numbers that do not pass add nothing.
pub filter-stays : (p : ℕ → Bool) (m n : ℕ) → m ≤ n → ((k : ℕ) → m ≤ k → k < n → p k ≡ false)
    → filter p (range_with_len 0 n) ≡ filter p (range_with_len 0 m)
filter-stays p m n l none = let there : m + (n - m) ≡ n = omega arith in
    subst (λ k. filter p (range_with_len 0 k) ≡ filter p (range_with_len 0 m)) there (go (n - m) (omega arith))
  where
    go : (k : ℕ) → m + k ≤ n → filter p (range_with_len 0 (m + k)) ≡ filter p (range_with_len 0 m)
    go zero h = let same : m + 0 ≡ m = omega arith in ap (λ k. filter p (range_with_len 0 k)) same
    go (suc k) h =
        let last : m + suc k ≡ (m + k) + 1 = omega arith in
        ap (λ i. filter p (range_with_len 0 i)) last ∙ filter-next p (m + k) false (none (m + k) (omega arith) (omega arith))
        ∙ go k (omega arith)

-- Past the end no byte is a backslash.
pub byte_at-past : (b : List ℕ) (j : ℕ) → length b ≤ j → byte_at b j ≢ backslash
byte_at-past b j l e = omega (arith, get_or_past b j 32 l, e)

-- A backslash lies in a block that is listed.
pub backslash-listed : (b : List ℕ) (i : ℕ) → i < length b → byte_at b i ≡ backslash → Contains (backslash_blocks b) (i / 64)
unfolding backslash_blocks
backslash-listed b i l is =
    let n : ℕ = blocks_in (length b) in
    Contains-filter_from (holds_backslash b) (range_with_len 0 n) (i / 64)
    ((Contains-range_with_len n (i / 64)).1 (omega (arith, l))) (holds_backslash-at b i is)
