-- What one value is read as, and what it leaves.
use Rattle.std.proofs.Common.{◌≡◌, refl, ◌∙◌, ap, subst, ℕ, ◌≤◌, inr, List, length, drop, arith, Ok}
use Rattle.simd_json_parts.specs.Document.{Document}
use Rattle.simd_json_parts.specs.Faults.{fault_at}
use Rattle.simd_json_parts.specs.Tokens.{Token}
use Rattle.simd_json_parts.specs.TokensAlong.{tokens_along}
use Rattle.simd_json_parts.specs.Descent.{value_from}
use Rattle.simd_json_parts.specs.declared.error.ErrorType.TheVariants.{Syntax}
use Rattle.simd_json_parts.proofs.Descent.ArrayTurns.{TakesTokens}
use Rattle.simd_json_parts.proofs.Descent.Shrinking.{value_from-leaves}
use Rattle.simd_json_ondemand.specs.Closing.{span}
use Rattle.simd_json_ondemand.specs.Remaining.{value_at_first}
use Rattle.simd_json_ondemand.proofs.Skipping.{Spanned, Spans, value_from-spans}
use Rattle.simd_json_check.proofs.Enough.{Keeps, value_from-keeps}

module _ (b : List ℕ) where
  pub takes : TakesTokens (fault_at b Syntax 0) (value_at_first b)
  unfolding value_from
  takes = record { none = refl; some = λ ts. value_from-leaves b (fault_at b Syntax 0) (length ts) ts }

  -- as many levels as tokens are enough
  pub enough : (n : ℕ) (ts : List Token) → length ts ≤ n → Keeps (value_from b (fault_at b Syntax 0) n ts) (value_at_first b ts)
  enough n ts l = value_from-keeps b (fault_at b Syntax 0) (fault_at b Syntax 0) n (length ts) ts (inr (omega arith))

  pub spans : (is : List ℕ) (d : Document) (rest : List Token) → value_at_first b (tokens_along b is) ≡ Ok (d, rest) → Spanned b is rest
  spans is d rest e = subst (Spans b is) e (value_from-spans b (fault_at b Syntax 0) (length (tokens_along b is)) is)

  pub left : (is : List ℕ) (d : Document) (rest : List Token) → value_at_first b (tokens_along b is) ≡ Ok (d, rest)
      → rest ≡ tokens_along b (drop (span b is) is)
  left is d rest e = let s = spans is d rest e in s.passed.along ∙ ap (λ n. tokens_along b (drop n is)) s.whole
