-- The faults of tokens that the second stage reports.
use Rattle.std.specs.Prelude.{◌≡◌, ℕ, List, ◌==◌, if◌then◌else◌}
use Rattle.simd_json_parts.specs.Bytes.{byte_at}
use Rattle.simd_json_parts.specs.Faults.{fault_with}
use Rattle.simd_json_parts.specs.declared.error.Error.{Error}
use Rattle.simd_json_parts.specs.declared.error.ErrorType.{ErrorType}
use Rattle.simd_json_parts.specs.declared.error.ErrorType.TheVariants as errors
use Rattle.simd_json_stages.specs.declared.stage2.fault.Fault.{Fault}
use Rattle.simd_json_stages.specs.declared.stage2.fault.FaultKind.{FaultKind}
use Rattle.simd_json_stages.specs.declared.stage2.fault.FaultKind.TheVariants as kinds

abbrev pub error_type : FaultKind → ErrorType
error_type kinds.InternalError = errors.InternalError
error_type kinds.ExpectedArrayContent = errors.ExpectedArrayContent
error_type kinds.ExpectedObjectContent = errors.ExpectedObjectContent
error_type kinds.ExpectedObjectKey = errors.ExpectedObjectKey
error_type kinds.ExpectedObjectColon = errors.ExpectedObjectColon
error_type kinds.ExpectedTrue = errors.ExpectedTrue
error_type kinds.ExpectedFalse = errors.ExpectedFalse
error_type kinds.ExpectedNull = errors.ExpectedNull
error_type kinds.InvalidNumber = errors.InvalidNumber
error_type kinds.InvalidEscape = errors.InvalidEscape
error_type kinds.InvalidUnicodeCodepoint = errors.InvalidUnicodeCodepoint
error_type kinds.Syntax = errors.Syntax
error_type kinds.TrailingData = errors.TrailingData
error_type kinds.DepthLimitExceeded = errors.DepthLimitExceeded

-- of a token with this first byte that is no scalar
abbrev pub rejected_kind : ℕ → FaultKind
rejected_kind c = if c == 116 then kinds.ExpectedTrue else if c == 102 then kinds.ExpectedFalse else if c == 110 then
    kinds.ExpectedNull else kinds.InternalError

abbrev pub number_rejection : List ℕ → ℕ → Fault
number_rejection b i = record { kind = kinds.InvalidNumber; index = i; byte = byte_at b i }

-- it is of one of these kinds, and carries a character
abbrev pub IsTokenFault : Error → Type 0
IsTokenFault e = (kind : FaultKind) × (i : ℕ) × (byte : ℕ) × (e ≡ fault_with (error_type kind) i byte)
