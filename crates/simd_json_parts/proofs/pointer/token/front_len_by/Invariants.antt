use Rattle.std.proofs.Common.{◌<◌, ◌≤◌, ◌-◌, length}
use Rattle.std.specs.List.{prefix_len}
use Rattle.simd_json_parts.specs.Followed.{is_neither}
use Rattle.simd_json_parts.proofs.pointer.token.front_len_by.Given as goal

abbrev pub invariant-loop-done : goal.invariant-loop-done
invariant-loop-done g l = (l.done < length l.bytes) × (l.done ≤ prefix_len (is_neither l.one l.other) l.bytes)

abbrev pub decreases-loop-done : goal.decreases-loop-done
decreases-loop-done g l = length l.bytes - l.done
