-- The place of a reader.
use Rattle.std.specs.Prelude.{◌≡◌, ◌≤◌, ◌+◌, ℕ, List, Some, length, slice_range}
use Rattle.simd_json_serde.specs.Ahead.{ahead, string_text}
use Rattle.simd_json_serde.specs.Nodes.{items_of, start_of}
use Rattle.simd_json_serde.specs.Steps.{Place}
use Rattle.simd_json_serde.specs.declared.node_reader.NodeReader.{NodeReader}

abbrev pub spot : NodeReader → Place
spot r = record { nodes = items_of r.nodes; at = r.at; end = r.end; outer = r.outer.items; at_key = r.at_key }

-- a string is next, and the input has it where the reader says
abbrev pub LiesAhead : NodeReader → List ℕ → Type 0
LiesAhead r input =
    (start : ℕ) × (t : List ℕ) × (ahead string_text (spot r) ≡ Some t) × (start_of r.nodes r.at ≡ Some start)
    × (start + length t ≤ length input) × (slice_range input start (start + length t) ≡ t)
