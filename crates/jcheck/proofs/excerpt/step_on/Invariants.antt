use Rattle.std.proofs.Common.{◌≡◌, ◌++◌, ◌-◌, ◌≤◌, length, take, drop}
use Rattle.jcheck.specs.Excerpts.{first_characters}
use Rattle.jcheck.proofs.excerpt.step_on.Given as goal

abbrev pub invariant-loop-end : goal.invariant-loop-end
invariant-loop-end l = record {
  bound : l.end ≤ length l.bytes;
  passed : take l.end l.bytes ++ first_characters l.left (drop l.end l.bytes) ≡ first_characters l.most l.bytes;
}

abbrev pub decreases-loop-end : goal.decreases-loop-end
decreases-loop-end l = length l.bytes - l.end
