-- An input that has no fault of the whole, and its structural indexes.
use Rattle.std.specs.Prelude.{◌≡◌, ℕ, List, None}
use Rattle.simd_json_parts.specs.InputFaults.{input_fault}
use Rattle.simd_json_parts.specs.Positions.{positions}

pub record IsWholeScan (b is : List ℕ) : Type 0 where
  pub listed : is ≡ positions b
  pub whole : input_fault b ≡ None
