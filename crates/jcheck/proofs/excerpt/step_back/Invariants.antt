use Rattle.std.proofs.Common.{◌≡◌, ◌+◌, ◌<◌, ◌≤◌, length, drop}
use Rattle.jcheck.specs.Excerpts.{characters}
use Rattle.jcheck.proofs.excerpt.step_back.Given as goal

-- fewer than `most` characters were counted before the last step
abbrev pub invariant-loop-start : goal.invariant-loop-start
invariant-loop-start l = record {
  bound : l.start ≤ length l.bytes;
  count : l.count ≡ characters (drop l.start l.bytes);
  few : l.start < length l.bytes → characters (drop (l.start + 1) l.bytes) < l.most;
}

abbrev pub decreases-loop-start : goal.decreases-loop-start
decreases-loop-start l = l.start
