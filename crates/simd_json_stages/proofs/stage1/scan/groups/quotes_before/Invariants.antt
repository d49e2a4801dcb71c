use Rattle.std.proofs.Common.{◌≡◌, ◌+◌, ◌-◌, ◌*◌, ◌≤◌, ℕ, List}
use Rattle.simd_json_stages.specs.Groups.{HaveParts, HasNoQuotes}
use Rattle.simd_json_stages.proofs.stage1.scan.groups.quotes_before.Given as goal

abbrev pub invariant-loop-k : goal.invariant-loop-k
invariant-loop-k l = record {
  to : l.k ≤ l.end;
  none : (b : List ℕ) (first : ℕ) → HaveParts b first 8 l.group → l.quotes ≡ 0
      → HasNoQuotes b (64 * first) (64 * (first + l.k));
}

abbrev pub decreases-loop-k : goal.decreases-loop-k
decreases-loop-k l = l.end - l.k
