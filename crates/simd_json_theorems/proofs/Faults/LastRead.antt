-- The token that was read last stands before those that are left.
use Rattle.std.proofs.Common.{◌≡◌, sym, ◌∙◌, ap, ℕ, suc, ◌-◌, ◌<◌, ◌≤◌, List, [], ◌∷◌, ◌++◌, length, length-append, Bool, true}
use Rattle.std.proofs.Common.{false, cond, take, arith}
use Rattle.std.specs.List.{AllPairs}
use Rattle.std.proofs.lemmas.List.Kept.{AllPairs-from_increasing}
use Rattle.std.proofs.Math.Seq.{take-append_seam}
use Rattle.simd_json_parts.specs.Descent.{last_index, last_read}
use Rattle.simd_json_parts.specs.Positions.{positions}
use Rattle.simd_json_parts.specs.Tokens.{Token, tokens, form_at}
use Rattle.simd_json_parts.specs.TokensAlong.{tokens_along, goes_on}
use Rattle.simd_json_parts.proofs.Positions.Order.{IsStrictlyIncreasing-positions}
use Rattle.simd_json_parts.proofs.Positions.TokensAtPositions.{tokens-positions}

-- numbers that rise
abbrev Rise : List ℕ → Type 0
Rise xs = AllPairs (λ x y. x < y) xs

-- the index of the first token, 0 where there is none
abbrev first_index : List Token → ℕ
first_index [] = 0
first_index (t ∷ ts) = t.index

-- What stands after a token is what comes along the other indexes.
after_first : (more : Bool) (us : List Token) (t : Token) (ts : List Token) → cond more us [] ≡ t ∷ ts → us ≡ t ∷ ts
after_first true us t ts e = e
after_first false us t ts e = cc

-- A token before another along rising indexes has no greater index.
last_index-le : (b : List ℕ) (is : List ℕ) → Rise is → (read : List Token) (t : Token) (ts : List Token)
    → tokens_along b is ≡ read ++ t ∷ ts → last_index read ≤ t.index
last_index-le b is rise [] t ts e = omega arith
last_index-le b [] rise (u ∷ read) t ts e = cc
last_index-le b (i ∷ is) rise (u ∷ v ∷ read) t ts e =
    last_index-le b is (λ j k d l h. rise (suc j) (suc k) d (omega arith) (omega arith)) (v ∷ read) t ts
    (after_first (goes_on (form_at b i)) _ v (read ++ t ∷ ts) (cc e))
last_index-le b (i ∷ []) rise (u ∷ []) t ts e = let f : [] ≡ t ∷ ts = after_first (goes_on (form_at b i)) [] t ts (cc e) in cc
last_index-le b (i ∷ j ∷ is) rise (u ∷ []) t ts e =
    let here : i ≡ u.index = ap first_index e in
    let there : j ≡ t.index = ap first_index (after_first (goes_on (form_at b i)) (tokens_along b (j ∷ is)) t ts (cc e)) in
    omega (arith, rise 0 1 0 (omega arith) (omega arith))

-- So it is with the last token that was read of an input.
pub last_read-le : (b : List ℕ) (read : List Token) (t : Token) (rest : List Token) → tokens b ≡ read ++ t ∷ rest
    → last_read (tokens b) (t ∷ rest) ≤ t.index
last_read-le b read t rest e =
    let prefix : length (read ++ t ∷ rest) - length (t ∷ rest) ≡ length read = omega (arith, length-append read (t ∷ rest)) in
    let same : last_read (tokens b) (t ∷ rest) ≡ last_index read =
    ap (λ ts. last_read ts (t ∷ rest)) e ∙ ap (λ n. last_index (take n (read ++ t ∷ rest))) prefix
    ∙ ap last_index (take-append_seam read (t ∷ rest)) in
    omega (
      arith,
      same,
      last_index-le b (positions b)
          (AllPairs-from_increasing (positions b) (IsStrictlyIncreasing-positions b)) read t rest (sym (tokens-positions b) ∙ e),
    )
