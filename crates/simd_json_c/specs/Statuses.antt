-- What a program in C gets of an error: a status and a place.
use Rattle.std.specs.Prelude.{◌-◌, ◌^◌, ℕ, ℤ, pos, List, if◌then◌else◌, Option, Some, None, Result, Err, ok_or}
use Rattle.simd_json_parts.specs.Pointed.{is_pointer}
use Rattle.simd_json_parts.specs.declared.error.Error.{Error}
use Rattle.simd_json_parts.specs.declared.error.ErrorType.{ErrorType}
use Rattle.simd_json_parts.specs.declared.error.ErrorType.TheVariants as errors
use Rattle.simd_json_c.specs.declared.status.ErrorPlace.{ErrorPlace}

-- each kind that a parse reports has a number; the others share one
abbrev pub kind_status : ErrorType → ℕ
kind_status errors.OutOfMemory = 1
kind_status errors.InputTooLarge = 2
kind_status errors.InvalidUtf8 = 3
kind_status errors.Syntax = 4
kind_status errors.Eof = 5
kind_status errors.InternalError = 6
kind_status errors.ExpectedArrayContent = 7
kind_status errors.ExpectedObjectContent = 8
kind_status errors.ExpectedObjectKey = 9
kind_status errors.ExpectedObjectColon = 10
kind_status errors.TrailingData = 11
kind_status errors.DepthLimitExceeded = 12
kind_status errors.ExpectedTrue = 13
kind_status errors.ExpectedFalse = 14
kind_status errors.ExpectedNull = 15
kind_status errors.InvalidNumber = 16
kind_status errors.InvalidEscape = 17
kind_status errors.InvalidUnicodeCodepoint = 18
kind_status _ = 99

-- the byte, or the greatest number where there is none
abbrev pub character_of : Option ℕ → ℕ
character_of None = 2 ^ 32 - 1
character_of (Some c) = c

-- of no error, or of one
abbrev pub error_status : Option Error → ℤ
error_status None = pos 0
error_status (Some e) = pos (kind_status e.error)

abbrev pub error_place : Option Error → ErrorPlace
error_place None = record { index = 0; character = 2 ^ 32 - 1 }
error_place (Some e) = record { index = e.index; character = character_of e.character }

-- bytes are no number
abbrev pub invalid_number : ℤ
invalid_number = pos (kind_status errors.InvalidNumber)

-- the memory that was lent is too small
abbrev pub too_little_room : ℤ
too_little_room = pos 19

-- of a parser that can't be opened
abbrev pub out_of_memory : ℤ
out_of_memory = pos 1

-- no parser is open
abbrev pub parser_closed : ℤ
parser_closed = pos 20

-- there is no such value
abbrev pub no_value_status : ℤ
no_value_status = pos 21

-- a JSON Pointer is malformed
abbrev pub invalid_pointer : ℤ
invalid_pointer = pos 22

-- why a pointer names no value: it is malformed, or leads nowhere
abbrev pub missing_status : List ℕ → ℤ
missing_status pointer = if is_pointer pointer then no_value_status else invalid_pointer

-- what a pointer leads to, or why there is none: a malformed one names nothing
abbrev pub named_by : {A : Type 0} → List ℕ → Option A → Result A ℤ
named_by pointer found = if is_pointer pointer then ok_or found no_value_status else Err invalid_pointer
