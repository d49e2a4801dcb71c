-- The names of statuses and of kinds of node.
use Rattle.std.specs.Prelude.{ℕ, ℤ, pos, List, [], ◌∷◌, ◌++◌, codes, map, slice_get, unwrap_or}
use Rattle.simd_json_parts.specs.ErrorKinds.{kind_text, type_name}
use Rattle.simd_json_parts.specs.declared.error.ErrorType.{ErrorType}
use Rattle.simd_json_parts.specs.declared.error.ErrorType.TheVariants as errors
use Rattle.simd_json_parts.specs.declared.node.ValueType.{ValueType}
use Rattle.simd_json_parts.specs.declared.node.ValueType.TheVariants as kinds

-- those of the statuses from 1 on
abbrev pub error_kinds : List ErrorType
error_kinds =
    errors.OutOfMemory ∷ errors.InputTooLarge ∷ errors.InvalidUtf8 ∷ errors.Syntax ∷ errors.Eof ∷ errors.InternalError
    ∷ errors.ExpectedArrayContent ∷ errors.ExpectedObjectContent ∷ errors.ExpectedObjectKey ∷ errors.ExpectedObjectColon
    ∷ errors.TrailingData ∷ errors.DepthLimitExceeded ∷ errors.ExpectedTrue ∷ errors.ExpectedFalse ∷ errors.ExpectedNull
    ∷ errors.InvalidNumber ∷ errors.InvalidEscape ∷ errors.InvalidUnicodeCodepoint ∷ []

abbrev pub status_names : List (List ℕ)
status_names = codes "Ok" ∷ (map kind_text error_kinds
    ++ codes "TooLittleRoom" ∷ codes "ParserClosed" ∷ codes "NoValue" ∷ codes "InvalidPointer" ∷ [])

-- those of the nodes' kinds from 0 on
abbrev pub node_kinds : List ValueType
node_kinds =
    kinds.Null ∷ kinds.Bool ∷ kinds.I64 ∷ kinds.U64 ∷ kinds.I128 ∷ kinds.U128 ∷ kinds.Decimal ∷ kinds.String ∷ kinds.Array
    ∷ kinds.Object ∷ []

-- the name with this number, or none
abbrev pub name_at : List (List ℕ) → ℕ → List ℕ
name_at names n = unwrap_or (slice_get names n) []

abbrev pub status_name : ℤ → List ℕ
status_name (pos n) = name_at status_names n
status_name _ = []

abbrev pub kind_name : ℕ → List ℕ
kind_name n = name_at (map type_name node_kinds) n
