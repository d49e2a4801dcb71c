use Rattle.simd_json_ondemand.specs.Sites.{member_sites}
use Rattle.simd_json_ondemand.proofs.Sites.{IsAhead}
use Rattle.simd_json_ondemand.proofs.Turns.{count}
use Rattle.simd_json_ondemand.proofs.pointer.find_named.Given as goal

abbrev pub invariant-loop-key : goal.invariant-loop-key
invariant-loop-key l = IsAhead l.token (member_sites l.fn.object) (member_sites l.left)

abbrev pub decreases-loop-key : goal.decreases-loop-key
decreases-loop-key l = count (member_sites l.left)
