use Rattle.std.proofs.Common.{◌≡◌, ◌+◌, ◌<◌, ◌≤◌, ◌^◌, length, map, not, nat_eq}
use Rattle.simd_json_parts.specs.Document.{Document}
use Rattle.simd_json_parts.specs.Limits.{depth}
use Rattle.simd_json_parts.specs.Listing.{listing}
use Rattle.simd_json_parts.specs.Nodes.{item_of}
use Rattle.simd_json_print.specs.Frames.{IsDeep, IsNext}
use Rattle.simd_json_print.specs.Texts.{Leads}
use Rattle.simd_json_print.proofs.Lead.{IsStart}
use Rattle.simd_json_print.proofs.document.levels.put_growing.Given as goal

-- where the levels are in use up to the last one, the next node is a container
abbrev pub invariant-loop-value : goal.invariant-loop-value
invariant-loop-value g l =
    let pretty = not (nat_eq g.row.PRETTY 0) in
    let levels = l.levels.items in
    let items = map item_of l.value.nodes.now in
    (l.used ≤ length levels) × (l.used + length l.value.nodes.now < 2 ^ 32)
    × (length l.fn.levels.items ≤ length levels) × (length levels ≤ l.used → IsDeep levels l.used items)
    × Leads g.T.Target.state l.fn.out l.out (IsStart (map item_of l.nodes)) (IsNext pretty 0 levels l.used items)
    × ((d : Document) → map item_of l.nodes ≡ listing d → 64 < depth d)

abbrev pub decreases-loop-value : goal.decreases-loop-value
decreases-loop-value g l = length l.value.nodes.now
