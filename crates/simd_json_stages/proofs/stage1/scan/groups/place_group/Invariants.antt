use Rattle.std.proofs.Common.{◌+◌, ◌-◌, ◌*◌, ◌≤◌, ℕ, List, length}
use Rattle.simd_json_stages.specs.Blocks.{IsPlaced}
use Rattle.simd_json_stages.specs.Groups.{HaveControl, HaveParts}
use Rattle.simd_json_stages.proofs.stage1.scan.groups.place_group.Given as goal

abbrev pub invariant-loop-k : goal.invariant-loop-k
invariant-loop-k l = record {
  to : l.k ≤ 8;
  capacity : l.now.used + 64 * (8 - l.k) ≤ length l.structural_indexes;
  few : l.now.used ≤ l.fn.before.used + 64 * l.k;
  placed : (b : List ℕ) → HaveControl b l.first 8 l.control → HaveParts b l.first 8 l.group
      → IsPlaced b l.first l.fn.before l.fn.structural_indexes → IsPlaced b (l.first + l.k) l.now l.structural_indexes;
}

abbrev pub decreases-loop-k : goal.decreases-loop-k
decreases-loop-k l = 8 - l.k
