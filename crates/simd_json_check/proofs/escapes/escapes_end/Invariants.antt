use Rattle.std.proofs.Common.{◌≤◌, ◌-◌, length}
use Rattle.simd_json_check.specs.Whole.{PassesFrom}
use Rattle.simd_json_check.proofs.escapes.escapes_end.Given as goal

abbrev pub invariant-loop-at : goal.invariant-loop-at
invariant-loop-at l = (l.from ≤ l.at) × PassesFrom l.fn.input l.from l.at

abbrev pub decreases-loop-at : goal.decreases-loop-at
decreases-loop-at l = length l.fn.input - l.at
