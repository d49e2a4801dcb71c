use Rattle.std.proofs.Common.{◌≤◌, ◌<◌, ◌+◌, ◌*◌, ◌-◌, not, nat_eq, length, map}
use Rattle.simd_json_parts.specs.Nodes.{item_of}
use Rattle.simd_json_print.specs.Frames.{IsNext}
use Rattle.simd_json_print.specs.Texts.{Leads}
use Rattle.simd_json_print.proofs.Lead.{IsStart}
use Rattle.simd_json_print.proofs.document.walk.+value.Given as goal

abbrev pub decreases-put_value : goal.decreases-put_value
decreases-put_value g l = 2 * length l.nodes.now + 1

-- with no level the same value is put by the other
abbrev pub decreases-put_value_within : goal.decreases-put_value_within
decreases-put_value_within g l = 2 * length l.nodes.now + 2 * (1 - length l.levels.now)

abbrev pub invariant-put_value_within-loop-value : goal.invariant-put_value_within-loop-value
invariant-put_value_within-loop-value g l =
    let pretty = not (nat_eq g.row.PRETTY 0) in
    (l.used ≤ length l.levels) × (0 < length l.levels) × (l.used + length l.value.nodes.now ≤ length l.nodes)
    × Leads g.T.Target.state l.fn.out l.out (IsStart (map item_of l.nodes))
    (IsNext pretty l.depth l.levels l.used (map item_of l.value.nodes.now))

abbrev pub decreases-put_value_within-loop-value : goal.decreases-put_value_within-loop-value
decreases-put_value_within-loop-value g l = length l.value.nodes.now
