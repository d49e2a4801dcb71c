-- What a parse of b returns: the fault of the whole input, else what the descent gives. Faults rest on it.
use Rattle.std.specs.Prelude.{ℕ, List, take, Option, Some, None, Result, Err}
use Rattle.simd_json_parts.specs.Document.{Document}
use Rattle.simd_json_parts.specs.InputFaults.{input_fault, padding_fault}
use Rattle.simd_json_parts.specs.Descent.{descent}
use Rattle.simd_json_parts.specs.declared.error.Error.{Error}

abbrev pub fault_or : {A : Type 0} → Option Error → Result A Error → Result A Error
fault_or None otherwise = otherwise
fault_or (Some e) otherwise = Err e

unfoldable pub answer : List ℕ → ℕ → Result Document Error
answer b limit = fault_or (input_fault b) (descent b limit)

-- of the padded form, which is given s with a document of `len` bytes at its front
abbrev pub padded_answer : List ℕ → ℕ → ℕ → Result Document Error
padded_answer s len limit = fault_or (padding_fault s len) (answer (take len s) limit)
