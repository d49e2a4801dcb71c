use Rattle.std.proofs.Common.{◌≡◌}
use Rattle.simd_json_parts.specs.MapEquality.{has_distinct_names}
use Rattle.simd_json.specs.Viewed.{pairs}
use Rattle.simd_json.proofs.value.tape.cmp.map.has_distinct_keys.Given as goal

abbrev pub invariant-loop-key : goal.invariant-loop-key
invariant-loop-key l = has_distinct_names (pairs l.left) ≡ has_distinct_names (pairs l.fn.object)

abbrev pub decreases-loop-key : goal.decreases-loop-key
decreases-loop-key l = l.left.len
