use Rattle.std.proofs.Common.{length, ◌-◌}
use Rattle.simd_json_ondemand.proofs.Quoted.{IsAhead}
use Rattle.simd_json_ondemand.proofs.strings.closing.Given as goal

abbrev pub invariant-loop-end : goal.invariant-loop-end
invariant-loop-end l = IsAhead l.fn.bytes l.end

abbrev pub decreases-loop-end : goal.decreases-loop-end
decreases-loop-end l = length l.fn.bytes - l.end
