use Rattle.std.proofs.Common.{◌-◌, ◌≤◌}
use Rattle.simd_json_stages.specs.Blocks.{HaveNoBackslash}
use Rattle.simd_json_stages.proofs.stage1.scan.windows.have_backslash.Given as goal

abbrev pub invariant-loop-i : goal.invariant-loop-i
invariant-loop-i l = record {
  from : l.window.first ≤ l.i;
  to : l.i ≤ l.window.end;
  none : HaveNoBackslash l.blocks l.window.first l.i;
}

abbrev pub decreases-loop-i : goal.decreases-loop-i
decreases-loop-i l = l.window.end - l.i
