use Rattle.std.proofs.Common.{◌≤◌, not, nat_eq, length, map}
use Rattle.simd_json_parts.specs.Nodes.{item_of}
use Rattle.simd_json_print.specs.Frames.{IsBetween}
use Rattle.simd_json_print.specs.Texts.{Leads}
use Rattle.simd_json_print.proofs.document.walk.put_up_to_value.Given as goal

abbrev pub invariant-loop-used : goal.invariant-loop-used
invariant-loop-used g l =
    let pretty = not (nat_eq g.row.PRETTY 0) in
    (l.used ≤ l.fn.used) × (length l.left.nodes.now ≤ length l.nodes.nodes.now)
    × Leads g.T.Target.state l.fn.out l.out
    (IsBetween pretty l.depth l.levels l.fn.used l.fn.is_first (map item_of l.nodes.nodes.now))
    (IsBetween pretty l.depth l.levels l.used l.is_first (map item_of l.left.nodes.now))

abbrev pub decreases-loop-used : goal.decreases-loop-used
decreases-loop-used g l = l.used
