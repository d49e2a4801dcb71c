use Rattle.std.proofs.Common.{◌≡◌, ◌≤◌, ◌-◌, List, get_or, not, nat_eq, length, map}
use Rattle.simd_json_parts.specs.Nodes.{item_of}
use Rattle.simd_json_print.specs.Frames.{IsBetween, no_level}
use Rattle.simd_json_print.specs.Texts.{Leads}
use Rattle.simd_json_print.specs.declared.document.walk.Level.{Level}
use Rattle.simd_json_print.proofs.document.walk.put_elements.Given as goal

abbrev pub invariant-loop-left : goal.invariant-loop-left
invariant-loop-left g l =
    let pretty = not (nat_eq g.row.PRETTY 0) in
    (length l.left.nodes.now ≤ length l.nodes.nodes.now)
    × ((levels : List Level) → get_or levels (l.used - 1) no_level ≡ l.innermost
    → Leads g.T.Target.state l.fn.out l.out
    (IsBetween pretty l.depth levels l.used l.fn.is_first (map item_of l.nodes.nodes.now))
    (IsBetween pretty l.depth levels l.used l.is_still_first (map item_of l.left.nodes.now)))

abbrev pub decreases-loop-left : goal.decreases-loop-left
decreases-loop-left g l = length l.left.nodes.now
