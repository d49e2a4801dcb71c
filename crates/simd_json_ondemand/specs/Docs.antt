-- What contracts see of a document and of a value.
use Rattle.std.specs.Prelude.{◌≡◌, ◌<◌, ◌+◌, ◌-◌, ℕ, List, drop, slice_index, slice_range, Option, None, option_map, option_and_then}
use Rattle.std.specs.Prelude.{if◌then◌else◌}
use Rattle.simd_json_parts.specs.Accessors.{Accessor, as_t}
use Rattle.simd_json_parts.specs.Bytes.{backslash, byte_at}
use Rattle.simd_json_parts.specs.Document as parts
use Rattle.simd_json_parts.specs.StringAt.{closing_quote}
use Rattle.simd_json_parts.specs.Tokens.{Form, form_at}
use Rattle.simd_json_parts.specs.declared.node.ValueType.{ValueType}
use Rattle.simd_json_ondemand.specs.Viewed.{read_along}
use Rattle.simd_json_check.specs.Scalars.{scalar_of, begins_number}
use Rattle.simd_json_ondemand.specs.Standing.{kind_of, literal_end}
use Rattle.simd_json_ondemand.specs.declared.value.Document.{Document}
use Rattle.simd_json_ondemand.specs.declared.value.Value.{Value}

-- the bytes of the input, and its structural indexes
abbrev pub text : Document → List ℕ
text d = d.input.now

abbrev pub places : Document → List ℕ
places d = d.indexes.now

-- the document of the grammar that begins at the first of these, if one does
abbrev pub root : Document → Option parts.Document
root d = read_along (text d) (places d)

-- the document of the grammar that begins at the value, if one does
abbrev pub doc : Value → Option parts.Document
doc v = read_along (text v.document) (drop v.at (places v.document))

-- the byte index at which the value begins
abbrev pub index_of : Value → ℕ
index_of v = slice_index (places v.document) v.at

-- the token there
abbrev pub form : Value → Form
form v = form_at (text v.document) (index_of v)

-- the string or scalar there, if one is
abbrev pub standing : Value → Option parts.Document
standing v = scalar_of (form v)

-- what an accessor returns of it
abbrev pub as_standing : {A : Type 0} → Accessor A → Value → Option A
as_standing t v = option_and_then (as_t t) (standing v)

-- its bytes as they are written, a string's with its quotes
abbrev pub literal : Value → Option (List ℕ)
literal v = let b = text v.document in option_map (slice_range b (index_of v)) (literal_end b (index_of v) (form v))

-- the literal of the number there, if one is: it begins with `-` or a digit
abbrev pub number : Value → Option (List ℕ)
number v = if begins_number (byte_at (text v.document) (index_of v)) then literal v else None

-- the kind of the value that begins there, by its token
abbrev pub kind : Value → Option ValueType
kind v = kind_of (form v)

-- the string there has an escape: a backslash before its closing quote
abbrev pub HasEscape : Value → Type 0
HasEscape v = let b = text v.document in
    (j : ℕ) × (index_of v < j) × (j < closing_quote b (index_of v)) × (byte_at b j ≡ backslash)

-- how many bytes the string there has as it is written, with its quotes
abbrev pub string_len : Value → ℕ
string_len v = closing_quote (text v.document) (index_of v) + 1 - index_of v

-- the bytes between its quotes
abbrev pub between_quotes : Value → List ℕ
between_quotes v =
    let i = index_of v in slice_range (text v.document) (i + 1) (closing_quote (text v.document) i)
