use Rattle.std.proofs.Common.{length}
use Rattle.simd_json_parts.proofs.Pointers.Stripping.{IsStripped}
use Rattle.simd_json_parts.proofs.pointer.key.strip_decoded.Given as goal

abbrev pub invariant-loop-wanted : goal.invariant-loop-wanted
invariant-loop-wanted l = IsStripped l.token l.front l.left l.wanted

abbrev pub decreases-loop-wanted : goal.decreases-loop-wanted
decreases-loop-wanted l = length l.wanted
