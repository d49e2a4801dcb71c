use Rattle.std.proofs.Common.{◌-◌, ◌≤◌}
use Rattle.simd_json_stages.specs.BlockScans.{CanScan, Scans}
use Rattle.simd_json_stages.proofs.stage1.scan.windows.scan_few.Given as goal

abbrev pub invariant-loop-i : goal.invariant-loop-i
invariant-loop-i l = record {
  from : l.window.first ≤ l.i;
  fits : CanScan l.blocks l.i l.window.end (record { classifying = l.classifying; placing = l.placing }) l.structural_indexes
      l.escape_blocks;
  scans : Scans l.blocks l.window.first l.i l.fn.before (record { classifying = l.classifying; placing = l.placing })
      l.fn.structural_indexes l.fn.escape_blocks l.structural_indexes l.escape_blocks;
}

abbrev pub decreases-loop-i : goal.decreases-loop-i
decreases-loop-i l = l.window.end - l.i
