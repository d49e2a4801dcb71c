use Rattle.std.proofs.Common.{not, nat_eq, length, map}
use Rattle.simd_json_parts.specs.Nodes.{item_of}
use Rattle.simd_json_print.specs.Frames.{IsAtValue, IsFurther, IsNext}
use Rattle.simd_json_print.specs.Texts.{Leads}
use Rattle.simd_json_print.proofs.document.walk.put_from.Given as goal

abbrev pub invariant-loop-first : goal.invariant-loop-first
invariant-loop-first g l =
    let pretty = not (nat_eq g.row.PRETTY 0) in
    IsFurther l.fn.levels l.fn.used (length l.fn.value.nodes.now) l.levels l.used (length l.value.nodes.now)
    × Leads g.T.Target.state l.fn.out l.out
    (IsAtValue pretty l.depth l.fn.levels l.fn.used (map item_of l.fn.value.nodes.now))
    (IsNext pretty l.depth l.levels l.used (map item_of l.value.nodes.now))

abbrev pub decreases-loop-first : goal.decreases-loop-first
decreases-loop-first g l = length l.value.nodes.now
