-- What a scan from left to right keeps, one byte further.
use Rattle.std.proofs.Common.{◌≡◌, refl, ◌∙◌, ap, ℕ, zero, suc, ◌+◌, List, [], ◌∷◌, ◌++◌, Bool, true, false, not, ◌&&◌, ◌==◌}
use Rattle.std.proofs.Common.{add-one, arith}
use Rattle.std.specs.Prelude.{filter, if◌then◌else◌}
use Rattle.std.specs.List.{range_with_len}
use Rattle.std.proofs.Math.Bool.{not-not}
use Rattle.std.proofs.lemmas.List.{append-nil}
use Rattle.std.proofs.lemmas.List.Elements.{filter-append}
use Rattle.simd_json_parts.specs.Bytes.{backslash, byte_at}
use Rattle.simd_json_parts.specs.Positions.{is_even, backslashes_before, is_real_quote, real_quotes, is_inside}
use Rattle.simd_json_parts.proofs.Lists.Parity.{is_even-suc}
use Rattle.simd_json_stages.specs.Words.{xor}
use Rattle.simd_json_stages.proofs.Scan.Bits.Computed.{equal-one}

-- ---- the definitions

-- the run of backslashes is of odd length just where the byte before is one, after a run of even length
pub odd-next : (b : List ℕ) (i : ℕ) → not (is_even (backslashes_before b (suc i))) ≡
    ((byte_at b i == backslash) && is_even (backslashes_before b i))
unfolding backslashes_before
odd-next b i = go (byte_at b i == backslash)
  where
    go : (t : Bool) → not (is_even (if t then suc (backslashes_before b i) else 0)) ≡ (t && is_even (backslashes_before b i))
    go true = ap not (is_even-suc (backslashes_before b i)) ∙ not-not (is_even (backslashes_before b i))
    go false = refl

-- inside turns at each real quote
pub inside-next : (b : List ℕ) (i : ℕ) → is_inside b i ≡ xor (not (is_even (real_quotes b i))) (is_real_quote b i)
unfolding is_inside real_quotes
inside-next b i = go (is_real_quote b i)
  where
    go : (t : Bool) → not (is_even (if t then suc (real_quotes b i) else real_quotes b i)) ≡ xor (not (is_even (real_quotes b i))) t
    go true = ap not (is_even-suc (real_quotes b i))
        ∙ equal-one (λ e. not (not e)) (λ e. xor (not e) true) tt (is_even (real_quotes b i))
    go false = equal-one not (λ e. xor (not e) false) tt (is_even (real_quotes b i))

range-next : (a n : ℕ) → range_with_len a (suc n) ≡ range_with_len a n ++ (a + n) ∷ []
range-next a zero = ap (λ m. m ∷ []) (omega arith)
range-next a (suc n) = ap (λ ms. a ∷ ms) (range-next (a + 1) n ∙ ap (λ m. range_with_len (a + 1) n ++ m ∷ []) (omega arith))

indices-next : (n : ℕ) → range_with_len 0 (suc n) ≡ range_with_len 0 n ++ n ∷ []
indices-next n = range-next 0 n ∙ ap (λ m. range_with_len 0 n ++ m ∷ []) (omega arith)

-- the indexes that pass grow by the next one, where it passes
pub filter-next : (p : ℕ → Bool) (n : ℕ) (t : Bool) → p n ≡ t
    → filter p (range_with_len 0 (n + 1)) ≡ (if t then filter p (range_with_len 0 n) ++ n ∷ [] else filter p (range_with_len 0 n))
filter-next p n t e = rw add-one (ap (filter p) (indices-next n) ∙ filter-append p (range_with_len 0 n) (n ∷ [])
    ∙ ap (λ u. filter p (range_with_len 0 n) ++ (if u then n ∷ [] else [])) e ∙ go t)
  where
    go : (t : Bool) → filter p (range_with_len 0 n) ++ (if t then n ∷ [] else []) ≡
        (if t then filter p (range_with_len 0 n) ++ n ∷ [] else filter p (range_with_len 0 n))
    go true = refl
    go false = append-nil (filter p (range_with_len 0 n))
