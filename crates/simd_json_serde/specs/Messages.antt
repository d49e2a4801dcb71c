-- What is printed of an error.
use Rattle.std.specs.Prelude.{ℕ, List, [], ◌∷◌, ◌++◌, Option, Some, None, codes, string_bytes}
use Rattle.std.specs.Fmt.InlineText.{inline_text}
use Rattle.simd_json_parts.specs.ErrorKinds.{error_text}
use Rattle.simd_json_serde.specs.Words.{found_words, wanted_words}
use Rattle.simd_json_serde.specs.declared.error.ReadError.{ReadError}
use Rattle.simd_json_serde.specs.declared.error.ReadError.TheVariants as errors
use Rattle.simd_json_serde.specs.declared.error.Mismatch.{Mismatch}
use Rattle.simd_json_serde.specs.declared.error.MismatchKind.{MismatchKind}
use Rattle.simd_json_serde.specs.declared.error.MismatchKind.TheVariants.{InvalidType, InvalidValue, InvalidLength, MissingValue}
use Rattle.simd_json_serde.specs.declared.error.MismatchKind.TheVariants.{MissingField, DuplicateField, UnknownField, UnknownVariant}
use Rattle.simd_json_serde.specs.declared.error.MismatchKind.TheVariants.{Custom, OutOfMemory}
use Rattle.simd_json_serde.specs.declared.write_error.WriteError.{WriteError}
use Rattle.simd_json_serde.specs.declared.write_error.WriteError.TheVariants as writes

abbrev pub path_of : Mismatch → List ℕ
path_of m = string_bytes m.path

abbrev pub given_name : Mismatch → List ℕ
given_name m = inline_text m.name

abbrev pub mismatch_reason : MismatchKind → List ℕ → List ℕ
mismatch_reason (InvalidType expected got) name = codes "expected " ++ wanted_words expected ++ codes ", found " ++ found_words got
mismatch_reason InvalidValue name = codes "the value does not fit the type"
mismatch_reason InvalidLength name = codes "the array has another length"
mismatch_reason MissingValue name = codes "a value is missing"
mismatch_reason MissingField name = codes "missing field `" ++ name ++ codes "`"
mismatch_reason DuplicateField name = codes "duplicate field `" ++ name ++ codes "`"
mismatch_reason UnknownField name = codes "unknown field"
mismatch_reason UnknownVariant name = codes "unknown variant"
mismatch_reason Custom name = name
mismatch_reason OutOfMemory name = codes "out of memory"

-- the path, unless it is empty
abbrev pub lead_text : List ℕ → List ℕ
lead_text [] = []
lead_text (x ∷ path) = (x ∷ path) ++ codes ": "

abbrev pub printed_mismatch : Mismatch → List ℕ
printed_mismatch m = lead_text (path_of m) ++ mismatch_reason m.fault.kind (given_name m)

abbrev pub printed_read_error : ReadError → List ℕ
printed_read_error (errors.Parse e) = error_text e
printed_read_error (errors.Mismatch m) = printed_mismatch m

-- nothing is known of what is printed of other errors
abbrev pub printed_write_error : WriteError → Option (List ℕ)
printed_write_error (writes.Text e) = Some (error_text e)
printed_write_error (writes.Value e) = None
printed_write_error (writes.Io e) = None
