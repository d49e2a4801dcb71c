-- `true`, `false` or `null` at an index: the document and the index after it, or a fault (RFC 8259, section 3).
-- Faults rest on it.
use Rattle.std.specs.Prelude.{ℕ, ◌+◌, List, length, drop, true, false, ◌&&◌, ◌==◌, nat_eq, Result, Ok, Err, codes, if◌then◌else◌}
use Rattle.std.specs.List.{starts_with}
use Rattle.simd_json_parts.specs.Bytes.{lower_t, lower_f, is_terminator, byte_at}
use Rattle.simd_json_parts.specs.Document.{Document, null, boolean}
use Rattle.simd_json_parts.specs.Faults.{fault_at}
use Rattle.simd_json_parts.specs.declared.error.Error.{Error}
use Rattle.simd_json_parts.specs.declared.error.ErrorType.{ErrorType}
use Rattle.simd_json_parts.specs.declared.error.ErrorType.TheVariants.{ExpectedTrue, ExpectedFalse, ExpectedNull}

-- the letters and then a terminator, or the fault at the first letter
abbrev pub atom_or : List ℕ → Document → ErrorType → List ℕ → ℕ → Result (Document × ℕ) Error
atom_or letters d kind b i =
    if starts_with nat_eq (drop i b) letters && is_terminator (byte_at b (i + length letters))
    then Ok (d, i + length letters)
    else Err (fault_at b kind i)

-- by the first letter, which is t, f or n
unfoldable pub atom_at : List ℕ → ℕ → Result (Document × ℕ) Error
atom_at b i =
    if byte_at b i == lower_t then atom_or (codes "true") (boolean true) ExpectedTrue b i
    else if byte_at b i == lower_f then atom_or (codes "false") (boolean false) ExpectedFalse b i
    else atom_or (codes "null") null ExpectedNull b i
