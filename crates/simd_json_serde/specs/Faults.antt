-- The faults of a reader.
use Rattle.std.specs.Prelude.{◌≡◌, ◌≤◌, ◌-◌, length, vec_len, vec_capacity, if◌then◌else◌, Some, None}
use Rattle.simd_json_parts.specs.Nodes.{Item}
use Rattle.simd_json_serde.specs.Ahead.{node_ahead}
use Rattle.simd_json_serde.specs.Places.{spot}
use Rattle.simd_json_serde.specs.declared.error.StepFault.{StepFault}
use Rattle.simd_json_serde.specs.declared.error.MismatchKind.{MismatchKind}
use Rattle.simd_json_serde.specs.declared.error.MismatchKind.TheVariants.{InvalidLength, MissingValue, OutOfMemory}
use Rattle.simd_json_serde.specs.declared.node_reader.NodeReader.{NodeReader}

-- of the value that was looked at, or else of the one around the last node, on the level that the reader is on
abbrev pub reader_fault : NodeReader → MismatchKind → StepFault
reader_fault r kind = record { kind = kind; node = if r.looked then r.at else r.at - 1; depth = length r.outer.items }

-- of an array of another length: where an item was looked at, the array was not left yet
abbrev pub length_fault : NodeReader → StepFault
length_fault r = record (reader_fault r InvalidLength) { depth = if r.looked then length r.outer.items - 1 else length r.outer.items }

-- the list of open containers had to grow, and could not
abbrev pub IsFull : NodeReader → StepFault → Type 0
IsFull r e = (e.kind ≡ OutOfMemory) × (vec_capacity r.outer ≤ vec_len r.outer)

-- of the next node, or where there is none that there is none
abbrev pub IsOfNext : NodeReader → StepFault → Type 0
IsOfNext r e =
    ((n : Item) → node_ahead (spot r) ≡ Some n → (e.node ≡ r.at) × (e.depth ≡ length r.outer.items))
    × (node_ahead (spot r) ≡ None → e ≡ reader_fault r MissingValue)
