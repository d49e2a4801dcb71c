use Rattle.std.proofs.Common.{◌≡◌, ◌-◌, ◌++◌, string_bytes}
use Rattle.simd_json_parts.specs.Document.{Document}
use Rattle.simd_json_parts.specs.Listing.{listing}
use Rattle.simd_json_serde.specs.Nodes.{items_of}
use Rattle.simd_json_serde.specs.Paths.{way}
use Rattle.simd_json_serde.proofs.Paths.{IsOnWay}
use Rattle.simd_json_serde.proofs.path.append_path.Given as goal

abbrev pub invariant-loop-passed : goal.invariant-loop-passed
invariant-loop-passed l =
    (d : Document) → items_of l.nodes ≡ listing d
    → IsOnWay (items_of l.nodes) l.fault.node (string_bytes l.fn.path ++ way d l.fault.depth l.fault.node) (string_bytes l.path) l.at
    (l.fault.depth - l.passed)
