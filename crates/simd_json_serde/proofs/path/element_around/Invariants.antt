use Rattle.std.proofs.Common.{◌≡◌, ◌≤◌, ◌+◌, ◌-◌, length}
use Rattle.simd_json_parts.specs.Document.{Elements}
use Rattle.simd_json_parts.specs.Listing.{elements_listing}
use Rattle.simd_json_serde.specs.Nodes.{items_of}
use Rattle.simd_json_serde.specs.Paths.{BeginAt, elements_way}
use Rattle.simd_json_serde.proofs.Paths.{ElementsFrom}
use Rattle.simd_json_serde.proofs.path.element_around.Given as goal

abbrev pub invariant-loop-element : goal.invariant-loop-element
invariant-loop-element l =
    (l.index ≤ l.element)
    × ((ds : Elements) → BeginAt (items_of l.nodes) l.first (elements_listing ds) → l.end ≡ l.first + length (elements_listing ds)
    → l.first ≤ l.node
    → ElementsFrom (items_of l.nodes) l.end l.node (λ depth. elements_way ds 0 depth (l.node - l.first)) l.element l.index)

abbrev pub decreases-loop-element : goal.decreases-loop-element
decreases-loop-element l = l.end - l.element
