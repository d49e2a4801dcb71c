use Rattle.std.proofs.Common.{◌≡◌, ◌<◌, ◌≤◌, ℕ, List, drop}
use Rattle.simd_json_parts.specs.StringAt.{closing_quote}
use Rattle.simd_json_stages.specs.Inputs.{IsStringBefore}
use Rattle.simd_json_stages.proofs.stage2.escapes.last_quote.Given as goal

-- no quote stands after `last`
abbrev pub invariant-back : goal.invariant-back
invariant-back l = record {
  below : l.last < l.end;
  upto : (b : List ℕ) → drop l.base b ≡ l.rest → IsStringBefore b l.at l.end → closing_quote b l.at ≤ l.last;
}

abbrev pub decreases-back : goal.decreases-back
decreases-back l = l.last
