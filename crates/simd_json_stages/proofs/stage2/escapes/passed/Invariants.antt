use Rattle.std.proofs.Common.{length, ◌-◌, ℕ, List}
use Rattle.simd_json_stages.specs.EscapesAhead.{ArePassed}
use Rattle.simd_json_stages.proofs.stage2.escapes.passed.Given as goal

abbrev pub invariant-loop-next : goal.invariant-loop-next
invariant-loop-next l = (b : List ℕ) → ArePassed b l.blocks l.fn.next l.at → ArePassed b l.blocks l.next l.at

abbrev pub decreases-loop-next : goal.decreases-loop-next
decreases-loop-next l = length l.blocks - l.next
