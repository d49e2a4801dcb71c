use Rattle.std.proofs.Common.{◌-◌, length}
use Rattle.simd_json_scalars.proofs.Strings.MovedRuns.{IsMoving}
use Rattle.simd_json_scalars.proofs.stringparse.move_plain.Given as goal

abbrev pub invariant-loop-bytes : goal.invariant-loop-bytes
invariant-loop-bytes l = IsMoving l.initial.bytes l.bytes l.from l.to l.done

abbrev pub decreases-loop-bytes : goal.decreases-loop-bytes
decreases-loop-bytes l = length l.bytes - l.done
