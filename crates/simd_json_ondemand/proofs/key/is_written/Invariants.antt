use Rattle.std.proofs.Common.{length, ◌-◌, not, nat_eq}
use Rattle.simd_json_ondemand.proofs.Keys.{IsRead}
use Rattle.simd_json_ondemand.proofs.key.is_written.Given as goal

abbrev pub invariant-loop-rest : goal.invariant-loop-rest
invariant-loop-rest g l = IsRead (not (nat_eq g.row.TOKEN 0)) l.fn.bytes l.fn.key l.from l.left

abbrev pub decreases-loop-rest : goal.decreases-loop-rest
decreases-loop-rest g l = length l.fn.bytes - l.from
