use Rattle.std.proofs.Common.{◌-◌, length}
use Rattle.simd_json_parts.specs.Led.{LeadsTo}
use Rattle.simd_json_parts.proofs.pointer.lead.follow.Given as goal

abbrev pub invariant-loop-token : goal.invariant-loop-token
invariant-loop-token g l = LeadsTo g.V.Parent.names l.pointer l.fn.value l.followed l.reached

abbrev pub decreases-loop-token : goal.decreases-loop-token
decreases-loop-token g l = length l.pointer - l.followed
