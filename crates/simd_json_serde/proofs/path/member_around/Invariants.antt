use Rattle.std.proofs.Common.{◌≡◌, ◌≤◌, ◌+◌, ◌-◌, length}
use Rattle.simd_json_parts.specs.Document.{Members}
use Rattle.simd_json_parts.specs.Listing.{members_listing}
use Rattle.simd_json_serde.specs.Nodes.{items_of}
use Rattle.simd_json_serde.specs.Paths.{BeginAt, members_way}
use Rattle.simd_json_serde.proofs.Paths.{MembersFrom}
use Rattle.simd_json_serde.proofs.path.member_around.Given as goal

abbrev pub invariant-loop-key : goal.invariant-loop-key
invariant-loop-key l =
    (ms : Members) → BeginAt (items_of l.nodes) l.first (members_listing ms) → l.end ≡ l.first + length (members_listing ms)
    → l.first ≤ l.node
    → MembersFrom (items_of l.nodes) l.end l.node (λ depth. members_way ms depth (l.node - l.first)) l.key

abbrev pub decreases-loop-key : goal.decreases-loop-key
decreases-loop-key l = l.end - l.key
