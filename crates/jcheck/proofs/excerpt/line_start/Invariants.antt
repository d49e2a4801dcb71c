use Rattle.std.proofs.Common.{◌≡◌, ◌<◌, ◌≤◌, ℕ, length, not, get_or, true}
use Rattle.simd_json_check.specs.Locations.{is_line_feed}
use Rattle.jcheck.proofs.excerpt.line_start.Given as goal

-- no byte from `start` on is a line feed
abbrev pub invariant-loop-start : goal.invariant-loop-start
invariant-loop-start l = (l.start ≤ length l.bytes)
    × ((k : ℕ) → l.start ≤ k → k < length l.bytes → not (is_line_feed (get_or l.bytes k 0)) ≡ true)

abbrev pub decreases-loop-start : goal.decreases-loop-start
decreases-loop-start l = l.start
