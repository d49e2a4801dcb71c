use Rattle.std.proofs.Common.{◌+◌, ◌-◌, ◌*◌, ◌≤◌, ℕ, List}
use Rattle.simd_json_stages.specs.Blocks.{IsPlaced}
use Rattle.simd_json_stages.specs.Groups.{HaveControl, HasNoQuotes}
use Rattle.simd_json_stages.proofs.Scan.InsideLaws.{passed}
use Rattle.simd_json_stages.proofs.stage1.scan.groups.pass_blocks.Given as goal

abbrev pub invariant-loop-k : goal.invariant-loop-k
invariant-loop-k l = record {
  to : l.k ≤ l.end;
  placed : (b : List ℕ) (first : ℕ) (out : List ℕ) → HaveControl b first 8 l.control
      → HasNoQuotes b (64 * first) (64 * (first + l.end)) → IsPlaced b first l.fn.before out
      → IsPlaced b (first + l.k) (passed b (first + l.k) l.fn.before l.bad) out;
}

abbrev pub decreases-loop-k : goal.decreases-loop-k
decreases-loop-k l = l.end - l.k
