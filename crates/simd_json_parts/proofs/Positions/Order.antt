-- Laws of structural positions.
use Rattle.std.proofs.Common.{◌≢◌, ◌↔◌, ◌∙◌, ap, ℕ, zero, suc, ◌+◌, ◌<◌, ◌≤◌, inl, inr, List, [], ◌∷◌, length, Bool, not, IsTrue}
use Rattle.std.proofs.Common.{Contains, filter, arith}
use Rattle.std.specs.List.{range_with_len}
use Rattle.std.specs.List.Sorted.{IsStrictlyIncreasing}
use Rattle.std.proofs.lemmas.Bool.{cases_Bool, cond_both, or_cases, or_left, and_from, and_parts}
use Rattle.std.proofs.lemmas.List.Elements.{All-contains, All-contains_itself, All-filter, filter_passes, Contains-append_right}
use Rattle.std.proofs.lemmas.List.Folds.{Any-from_list_any}
use Rattle.std.proofs.lemmas.List.FromFn.{get_or-range_with_len, length-range_with_len}
use Rattle.std.proofs.lemmas.List.Kept.{IsStrictlyIncreasing-filter}
use Rattle.simd_json_parts.specs.Bytes.{indices}
use Rattle.simd_json_parts.specs.Positions.{is_even, is_real_quote, real_quotes, is_inside, is_position, positions, has_control_inside}
use Rattle.simd_json_parts.specs.InputFaults.{has_bad_string}

IsStrictlyIncreasing-range_with_len : (a n : ℕ) → IsStrictlyIncreasing (range_with_len a n)
IsStrictlyIncreasing-range_with_len a n k l =
    omega (arith, get_or-range_with_len a n k 0, get_or-range_with_len a n (k + 1) 0, length-range_with_len a n)

-- Positions rise.
pub IsStrictlyIncreasing-positions : (b : List ℕ) → IsStrictlyIncreasing (positions b)
unfolding positions
IsStrictlyIncreasing-positions b =
    IsStrictlyIncreasing-filter (is_position b) (indices b) (IsStrictlyIncreasing-range_with_len 0 (length b))

pub Contains-range_with_len : (n i : ℕ) → Contains (range_with_len 0 n) i ↔ (i < n)
Contains-range_with_len n i = (
  λ c. omega (arith, get_or-range_with_len 0 n c.0 i, length-range_with_len 0 n, c.1, c.2),
  λ l. (i, omega (arith, length-range_with_len 0 n), omega (arith, get_or-range_with_len 0 n i i)),
)

pub Contains-filter_from : (p : ℕ → Bool) (xs : List ℕ) (x : ℕ) → Contains xs x → IsTrue (p x) → Contains (filter p xs) x
Contains-filter_from p [] x c passes = absurd (omega arith)
Contains-filter_from p (y ∷ ys) x (zero, l, e) passes = rw (ap p e ∙ passes) (0, omega arith, e)
Contains-filter_from p (y ∷ ys) x (suc k, l, e) passes =
    let later : Contains (filter p ys) x = Contains-filter_from p ys x (k, omega arith, e) passes in
    cond_both (p y) (y ∷ filter p ys) (filter p ys) (λ zs. Contains zs x)
    (λ h. Contains-append_right (y ∷ []) (filter p ys) x later) (λ h. later)

-- A filter keeps the elements that pass.
Contains-filter : (p : ℕ → Bool) (xs : List ℕ) (x : ℕ) → Contains (filter p xs) x ↔ (Contains xs x × IsTrue (p x))
Contains-filter p xs x = (
  λ c. (
    All-contains (Contains xs) (filter p xs) x (All-filter p (Contains xs) xs (All-contains_itself xs)) c,
    All-contains (λ y. IsTrue (p y)) (filter p xs) x (filter_passes p xs) c,
  ),
  λ h. Contains-filter_from p xs x h.0 h.1,
)

-- The positions are the indexes that the definition picks.
pub Contains-positions : (b : List ℕ) (i : ℕ) → Contains (positions b) i ↔ ((i < length b) × IsTrue (is_position b i))
unfolding positions
Contains-positions b i =
    let index : Contains (indices b) i ↔ (i < length b) = Contains-range_with_len (length b) i in
    let kept : Contains (filter (is_position b) (indices b)) i ↔ (Contains (indices b) i × IsTrue (is_position b i)) =
    Contains-filter (is_position b) (indices b) i in
    (λ c. (index.0 (kept.0 c).0, (kept.0 c).1), λ h. kept.1 (index.1 h.0, h.1))

-- Where the number of real quotes so far is odd, one of them opens.
real_quotes-odd : (b : List ℕ) (n : ℕ) → IsTrue (not (is_even (real_quotes b n)))
    → (j : ℕ) × (j < n) × IsTrue (is_real_quote b j) × IsTrue (is_inside b j)
unfolding real_quotes is_inside
real_quotes-odd b zero h = cc
real_quotes-odd b (suc n) h =
    elim (cases_Bool (is_real_quote b n)) [
      | inl is ↦ (n, omega arith, is, h)
      | inr not_one ↦ let (j, l, is, inside) = real_quotes-odd b n (rw not_one at h) in (j, omega arith, is, inside)
    ]

-- An opening quote is a position.
is_position-opening : (b : List ℕ) (j : ℕ) → IsTrue (is_real_quote b j) → IsTrue (is_inside b j) → IsTrue (is_position b j)
unfolding is_position
is_position-opening b j is inside = or_left _ _ (and_from _ _ is inside)

-- Where the number of real quotes so far is odd, there is a position.
positions-odd : (b : List ℕ) (n : ℕ) → n ≤ length b → IsTrue (not (is_even (real_quotes b n))) → positions b ≢ []
positions-odd b n l odd none =
    let (j, m, is, inside) = real_quotes-odd b n odd in
    let c : Contains (positions b) j = (Contains-positions b j).1 (omega arith, is_position-opening b j is inside) in
    omega (arith, c.1, ap length none)

-- Where some byte is inside there is a position.
pub positions-inside : (b : List ℕ) (i : ℕ) → i < length b → IsTrue (is_inside b i) → positions b ≢ []
unfolding is_inside
positions-inside b i l inside = positions-odd b (suc i) (omega arith) inside

-- Where a string is bad there is a position.
pub positions-bad : (b : List ℕ) → IsTrue (has_bad_string b) → positions b ≢ []
unfolding has_control_inside
positions-bad b bad =
    elim (or_cases _ _ bad) [
      | inl odd ↦ positions-odd b (length b) (omega arith) odd
      | inr control ↦ let (k, i, l, at, h) = Any-from_list_any _ (indices b) control in
          let within : i < length b = omega (arith, length-range_with_len 0 (length b), get_or-range_with_len 0 (length b) k i) in
          positions-inside b i within (and_parts _ _ h).0
    ]
