use Rattle.std.proofs.Common.{◌≡◌, ◌-◌, ◌%◌, ◌≤◌}
use Rattle.simd_json_stages.specs.BlockScans.{CanScan, Scans}
use Rattle.simd_json_stages.proofs.stage1.scan.groups.scan_groups.Given as goal

abbrev pub invariant-loop-i : goal.invariant-loop-i
invariant-loop-i l = record {
  from : l.window.first ≤ l.i;
  groups : (l.window.end - l.i) % 8 ≡ 0;
  fits : CanScan l.blocks l.i l.window.end l.done l.structural_indexes l.escape_blocks;
  scans : Scans l.blocks l.window.first l.i l.fn.before l.done l.fn.structural_indexes l.fn.escape_blocks l.structural_indexes
      l.escape_blocks;
}

abbrev pub decreases-loop-i : goal.decreases-loop-i
decreases-loop-i l = l.window.end - l.i
