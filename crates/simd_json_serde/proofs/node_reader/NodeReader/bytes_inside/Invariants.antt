use Rattle.std.proofs.Common.{◌≡◌, ◌≤◌, ◌+◌, ◌-◌, length}
use Rattle.simd_json_serde.specs.Nodes.{items_of}
use Rattle.simd_json_serde.specs.Places.{spot}
use Rattle.simd_json_serde.specs.Steps.{AreBytesAt}
use Rattle.simd_json_serde.proofs.node_reader.NodeReader.bytes_inside.Given as goal

abbrev pub invariant-bytes : goal.invariant-bytes
invariant-bytes l = record {
  place : spot l.self ≡ record (spot l.fn.self) { at = l.fn.self.at + length l.bytes.items };
  within : l.self.at ≤ l.self.end;
  bytes : AreBytesAt (items_of l.fn.self.nodes) l.fn.self.at l.bytes.items;
}

abbrev pub decreases-bytes : goal.decreases-bytes
decreases-bytes l = l.self.end - l.self.at
