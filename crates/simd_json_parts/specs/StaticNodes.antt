-- When two nodes of fixed size are equal: the same truth value, or the same number whatever its kind. Neither
-- acceptance nor faults rest on it.
use Rattle.std.specs.Prelude.{ℤ, pos, Bool, Option, Some, None}
use Rattle.std.specs.Bool.{beq}
use Rattle.std.specs.Option.{option_eq}
use Rattle.std.specs.Ordering.{on, int_eq, eq_of_both}
use Rattle.simd_json_parts.specs.declared.node.StaticNode.{StaticNode}
use Rattle.simd_json_parts.specs.declared.node.StaticNode.TheVariants as fixed

abbrev pub truth_of : StaticNode → Option Bool
truth_of (fixed.Bool b) = Some b
truth_of _ = None

abbrev pub number_in : StaticNode → Option ℤ
number_in (fixed.I64 z) = Some z
number_in (fixed.U64 n) = Some (pos n)
number_in (fixed.I128 z) = Some z
number_in (fixed.U128 n) = Some (pos n)
number_in _ = None

abbrev pub same_static : StaticNode → StaticNode → Bool
same_static = eq_of_both (on truth_of (option_eq beq)) (on number_in (option_eq int_eq))
