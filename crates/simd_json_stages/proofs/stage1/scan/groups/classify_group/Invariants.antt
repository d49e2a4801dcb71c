use Rattle.std.proofs.Common.{◌+◌, ◌-◌, ◌≤◌, ℕ, List, length}
use Rattle.simd_json_stages.specs.Blocks.{AreBlocks, CanList, IsClassified}
use Rattle.simd_json_stages.specs.BlockScans.{Classifies}
use Rattle.simd_json_stages.specs.Groups.{HaveClasses}
use Rattle.simd_json_stages.proofs.Scan.GroupLaws.{AreWords}
use Rattle.simd_json_stages.proofs.stage1.scan.groups.classify_group.Given as goal

abbrev pub invariant-loop-k : goal.invariant-loop-k
invariant-loop-k l = record {
  to : l.k ≤ 8;
  words : AreWords l.classes.space_or_quote l.classes.op_or_quote l.classes.control l.classes.escaped;
  capacity : CanList l.blocks (l.first + l.k) (l.first + 8) l.now.listed (length l.escape_blocks);
  classified : Classifies l.blocks l.first (l.first + l.k) l.fn.before l.now l.fn.escape_blocks l.escape_blocks;
  classes : (b : List ℕ) → AreBlocks b l.blocks → IsClassified b l.first l.fn.before l.fn.escape_blocks
      → HaveClasses b l.first l.k l.classes;
}

abbrev pub decreases-loop-k : goal.decreases-loop-k
decreases-loop-k l = 8 - l.k
