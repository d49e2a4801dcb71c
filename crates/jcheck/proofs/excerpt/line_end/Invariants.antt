use Rattle.std.proofs.Common.{◌≡◌, ◌-◌, ◌<◌, ◌≤◌, ℕ, length, get_or, false}
use Rattle.simd_json_check.specs.Locations.{is_line_feed}
use Rattle.jcheck.proofs.excerpt.line_end.Given as goal

-- no byte before `end` is a line feed
abbrev pub invariant-loop-end : goal.invariant-loop-end
invariant-loop-end l = (l.end ≤ length l.bytes)
    × ((k : ℕ) → k < l.end → is_line_feed (get_or l.bytes k 0) ≡ false)

abbrev pub decreases-loop-end : goal.decreases-loop-end
decreases-loop-end l = length l.bytes - l.end
