-- Faults as values of `Error`. Faults rest on it.
use Rattle.std.specs.Prelude.{ℕ, List, Option, Some, None}
use Rattle.simd_json_parts.specs.Bytes.{byte_at}
use Rattle.simd_json_parts.specs.declared.error.Error.{Error}
use Rattle.simd_json_parts.specs.declared.error.ErrorType.{ErrorType}

abbrev pub error_of : ℕ → Option ℕ → ErrorType → Error
error_of i character kind = record { index = i; character = character; error = kind }

-- of the whole input: at index 0, without a character
abbrev pub whole_fault : ErrorType → Error
whole_fault kind = error_of 0 None kind

-- at an index, with this byte as its character
abbrev pub fault_with : ErrorType → ℕ → ℕ → Error
fault_with kind i byte = error_of i (Some byte) kind

-- at an index, with the byte that stands there
abbrev pub fault_at : List ℕ → ErrorType → ℕ → Error
fault_at b kind i = fault_with kind i (byte_at b i)
