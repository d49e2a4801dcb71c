use Rattle.std.proofs.Common.{◌-◌, ◌≤◌, length}
use Rattle.simd_json_stages.specs.Blocks.{IsScanned}
use Rattle.simd_json_stages.specs.Carries.{IsChecked}
use Rattle.simd_json_stages.proofs.stage1.scan.scan_blocks.Given as goal

abbrev pub invariant-loop-first : goal.invariant-loop-first
invariant-loop-first g l = record {
  to : l.first ≤ length l.blocks;
  scanned : IsScanned l.input l.first l.done l.structural_indexes.items l.escape_blocks.items;
  checked : IsChecked l.input l.checked;
  longer : length l.initial.structural_indexes.items ≤ length l.structural_indexes.items;
  blocks_longer : length l.initial.escape_blocks.items ≤ length l.escape_blocks.items;
}

abbrev pub decreases-loop-first : goal.decreases-loop-first
decreases-loop-first g l = length l.blocks - l.first
