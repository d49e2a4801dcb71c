use Rattle.std.proofs.Common.{◌≡◌, ◌≤◌, length}
use Rattle.simd_json_check.specs.Reasons.{byte_before}
use Rattle.simd_json_check.proofs.location.context.byte_before.Given as goal

abbrev pub invariant-loop-end : goal.invariant-loop-end
invariant-loop-end l = (byte_before l.input l.end ≡ byte_before l.input l.i) × (l.end ≤ length l.input)

abbrev pub decreases-loop-end : goal.decreases-loop-end
decreases-loop-end l = l.end
