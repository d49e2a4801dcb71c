-- Bytes that denote a document within the limits are answered with it.
use Rattle.std.proofs.Common.{◌≡◌, ◌≢◌, ◌∙◌, ap, ℕ, List, [], length, not}
use Rattle.std.specs.Prelude.{None, Ok, Err}
use Rattle.std.proofs.lemmas.Bool.{cond-false, le-ltb, ne_eqb}
use Rattle.std.proofs.lemmas.List.{nil_from_length}
use Rattle.std.proofs.lemmas.Str.{is_utf8-from_IsUtf8}
use Rattle.simd_json_parts.specs.Answer.{answer, fault_or}
use Rattle.simd_json_parts.specs.Descent.{◌>>=◌, descent, value_from, last_index, root_end}
use Rattle.simd_json_parts.specs.Document.{Document}
use Rattle.simd_json_parts.specs.Faults.{fault_at}
use Rattle.simd_json_parts.specs.Grammar.{Denotes}
use Rattle.simd_json_parts.specs.InputFaults.{input_fault}
use Rattle.simd_json_parts.specs.Limits.{max_length, WithinLimits}
use Rattle.simd_json_parts.specs.Positions.{positions}
use Rattle.simd_json_parts.specs.Tokens.{tokens}
use Rattle.simd_json_parts.specs.TokensAlong.{tokens_along}
use Rattle.simd_json_parts.specs.declared.error.Error.{Error}
use Rattle.simd_json_parts.specs.declared.error.ErrorType.TheVariants.{Syntax}
use Rattle.simd_json_theorems.proofs.Complete.ClosedStrings.{has_bad_string-Denotes}
use Rattle.simd_json_theorems.proofs.Complete.Documents.{descent-Denotes}
use Rattle.simd_json_parts.proofs.Descent.Shrinking.{value_from-takes}
use Rattle.simd_json_parts.proofs.Positions.TokensAtPositions.{tokens-positions}
use Rattle.simd_json_theorems.proofs.Complete.Utf8Documents.{IsUtf8-Denotes}

-- Where the descent answers a document there is a position: without one no token is read.
positions-descent : (b : List ℕ) (d : Document) (limit : ℕ) → descent b limit ≡ Ok d → positions b ≢ []
unfolding descent
positions-descent b d limit is none =
    let missing : Error = fault_at b Syntax (last_index (tokens b)) in
    let no_token : tokens b ≡ [] = tokens-positions b ∙ ap (tokens_along b) none in
    let rejected : descent b limit ≡ Err missing =
    ap (λ r. r >>= root_end b (tokens b))
    (ap (value_from b missing limit) no_token ∙ (value_from-takes b missing limit).none) in
    cc

-- The whole input has no fault.
pub input_fault-Denotes : (b : List ℕ) (d : Document) (limit : ℕ) → Denotes b d → WithinLimits b d limit → input_fault b ≡ None
unfolding input_fault
input_fault-Denotes b d limit h within =
    cond-false _ _ _ (le-ltb max_length (length b) within.size)
    ∙ cond-false _ _ _ (ap not (is_utf8-from_IsUtf8 b (IsUtf8-Denotes b d h)))
    ∙ cond-false _ _ _ (has_bad_string-Denotes b d h)
    ∙ cond-false _ _ _ (ne_eqb (length (positions b)) 0 (λ none. positions-descent b d limit
    (descent-Denotes b d limit h within.integers within.nesting) (nil_from_length (positions b) none)))

pub answer-Denotes : (b : List ℕ) (d : Document) (limit : ℕ) → Denotes b d → WithinLimits b d limit → answer b limit ≡ Ok d
unfolding answer
answer-Denotes b d limit h within = ap (λ o. fault_or o (descent b limit)) (input_fault-Denotes b d limit h within)
    ∙ descent-Denotes b d limit h within.integers within.nesting
