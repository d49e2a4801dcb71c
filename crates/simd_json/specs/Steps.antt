-- What a contract sees of a deserializer.
use Rattle.std.specs.Prelude.{ℕ}
use Rattle.simd_json.specs.Tapes.{Listed}

-- the tape, and the index of the node that comes next: past the last one, none is left
pub record Stepped : Type 0 where
  pub tape : Listed
  pub position : ℕ

-- at the first node
abbrev pub steps_from : Listed → Stepped
steps_from tape = record { tape = tape; position = 0 }
