-- The kinds of error: their classes, their names, and what is printed of an error. Neither acceptance nor faults
-- rest on it.
use Rattle.std.specs.Prelude.{ℕ, List, Bool, true, false, ◌++◌, codes, Option, Some, None, string_bytes, encode_utf8}
use Rattle.std.specs.Fmt.{decimal}
use Rattle.simd_json_parts.specs.declared.error.Error.{Error}
use Rattle.simd_json_parts.specs.declared.error.ErrorType.{ErrorType}
use Rattle.simd_json_parts.specs.declared.error.ErrorType.TheVariants as errors
use Rattle.simd_json_parts.specs.declared.node.TryTypeError.{TryTypeError}
use Rattle.simd_json_parts.specs.declared.node.ValueType.{ValueType}
use Rattle.simd_json_parts.specs.declared.node.ValueType.TheVariants as kinds

-- memory or the call, an input without a token, an input that is no JSON text, a value that is not what was asked for
pub data Class : Type 0 where
  io eof syntax shape : Class

-- The kinds of a fault at a token that an array or an object does not expect: after an element, at a name, after a
-- name, after a member. No document goes on with that token's first byte.
abbrev pub is_unexpected_token : ErrorType → Bool
is_unexpected_token errors.ExpectedArrayContent = true
is_unexpected_token errors.ExpectedObjectContent = true
is_unexpected_token errors.ExpectedObjectKey = true
is_unexpected_token errors.ExpectedObjectColon = true
is_unexpected_token _ = false

abbrev pub type_name : ValueType → List ℕ
type_name kinds.Null = codes "Null"
type_name kinds.Bool = codes "Bool"
type_name kinds.String = codes "String"
type_name kinds.I64 = codes "I64"
type_name kinds.U64 = codes "U64"
type_name kinds.I128 = codes "I128"
type_name kinds.U128 = codes "U128"
type_name kinds.Decimal = codes "Decimal"
type_name kinds.Array = codes "Array"
type_name kinds.Object = codes "Object"

abbrev pub optional_name : Option ValueType → List ℕ
optional_name None = codes "None"
optional_name (Some kind) = codes "Some(" ++ type_name kind ++ codes ")"

-- the kind of a value, in words
abbrev pub type_words : ValueType → List ℕ
type_words kinds.Null = codes "null"
type_words kinds.Bool = codes "a boolean"
type_words kinds.String = codes "a string"
type_words kinds.I64 = codes "a signed integer"
type_words kinds.U64 = codes "an unsigned integer"
type_words kinds.I128 = codes "a signed integer of 128 bits"
type_words kinds.U128 = codes "an unsigned integer of 128 bits"
type_words kinds.Decimal = codes "a decimal"
type_words kinds.Array = codes "an array"
type_words kinds.Object = codes "an object"

-- the kind that was asked for: an integer has to fit its type
abbrev pub expected_words : ValueType → List ℕ
expected_words kinds.I64 = codes "an integer that fits"
expected_words kinds.U64 = codes "an unsigned integer that fits"
expected_words kinds.I128 = codes "an integer that fits"
expected_words kinds.U128 = codes "an unsigned integer"
expected_words kind = type_words kind

-- what is printed of a value of another kind
abbrev pub mismatch_text : TryTypeError → List ℕ
mismatch_text e = codes "expected " ++ expected_words e.expected ++ codes ", found " ++ type_words e.got

-- ---- the table: of each kind its class, and what is printed of it

abbrev pub row : ErrorType → Class × List ℕ
row errors.InputTooLarge = (io, codes "InputTooLarge")
row errors.InsufficientPadding = (io, codes "InsufficientPadding")
row errors.OutOfMemory = (io, codes "OutOfMemory")
row errors.Eof = (eof, codes "Eof")
row errors.InternalError = (syntax, codes "InternalError")
row errors.BadKeyType = (syntax, codes "BadKeyType")
row errors.ExpectedArrayComma = (syntax, codes "ExpectedArrayComma")
row errors.ExpectedObjectColon = (syntax, codes "ExpectedObjectColon")
row errors.ExpectedMapComma = (syntax, codes "ExpectedMapComma")
row errors.ExpectedMapEnd = (syntax, codes "ExpectedMapEnd")
row errors.InvalidEscape = (syntax, codes "InvalidEscape")
row errors.InvalidExponent = (syntax, codes "InvalidExponent")
row errors.InvalidNumber = (syntax, codes "InvalidNumber")
row errors.InvalidUtf8 = (syntax, codes "InvalidUtf8")
row errors.InvalidUnicodeEscape = (syntax, codes "InvalidUnicodeEscape")
row errors.InvalidUnicodeCodepoint = (syntax, codes "InvalidUnicodeCodepoint")
row errors.KeyMustBeAString = (syntax, codes "KeyMustBeAString")
row errors.NoStructure = (syntax, codes "NoStructure")
row errors.Parser = (syntax, codes "Parser")
row errors.Syntax = (syntax, codes "Syntax")
row errors.TrailingData = (syntax, codes "TrailingData")
row errors.UnexpectedCharacter = (syntax, codes "UnexpectedCharacter")
row errors.UnterminatedString = (syntax, codes "UnterminatedString")
row errors.ExpectedArrayContent = (syntax, codes "ExpectedArrayContent")
row errors.ExpectedObjectContent = (syntax, codes "ExpectedObjectContent")
row errors.ExpectedObjectKey = (syntax, codes "ExpectedObjectKey")
row errors.Overflow = (syntax, codes "Overflow")
row errors.SimdUnsupported = (syntax, codes "SimdUnsupported")
row errors.ExpectedArray = (shape, codes "ExpectedArray")
row errors.ExpectedBoolean = (shape, codes "ExpectedBoolean")
row errors.ExpectedEnum = (shape, codes "ExpectedEnum")
row errors.ExpectedFloat = (shape, codes "ExpectedFloat")
row errors.ExpectedInteger = (shape, codes "ExpectedInteger")
row errors.ExpectedMap = (shape, codes "ExpectedMap")
row errors.ExpectedNull = (shape, codes "ExpectedNull")
row errors.ExpectedTrue = (shape, codes "ExpectedTrue")
row errors.ExpectedFalse = (shape, codes "ExpectedFalse")
row errors.ExpectedNumber = (shape, codes "ExpectedNumber")
row errors.ExpectedSigned = (shape, codes "ExpectedSigned")
row errors.ExpectedString = (shape, codes "ExpectedString")
row errors.ExpectedUnsigned = (shape, codes "ExpectedUnsigned")
row errors.DepthLimitExceeded = (shape, codes "DepthLimitExceeded")
row (errors.Unexpected expected got) =
    (shape, codes "Unexpected(" ++ optional_name expected ++ codes ", " ++ optional_name got ++ codes ")")
row (errors.Serde message) = (shape, codes "Serde(" ++ string_bytes message ++ codes ")")

abbrev pub class_of : ErrorType → Class
class_of kind = (row kind).0

abbrev pub kind_text : ErrorType → List ℕ
kind_text kind = (row kind).1

abbrev pub with_character : List ℕ → Option ℕ → List ℕ
with_character place None = place
with_character place (Some c) = place ++ codes " ('" ++ encode_utf8 c ++ codes "')"

-- what is printed of an error
abbrev pub error_text : Error → List ℕ
error_text e = with_character (kind_text e.error ++ codes " at character " ++ decimal e.index) e.character
