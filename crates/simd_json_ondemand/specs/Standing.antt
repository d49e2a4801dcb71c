-- What is at a structural index, whether or not the bytes are a document: the kind of a value by its token, the node of an
-- integer, and where a string or a scalar ends.
use Rattle.std.specs.Prelude.{◌≡◌, ℕ, suc, List, Bool, true, false, Option, Some, None, Ok}
use Rattle.simd_json_parts.specs.Document.{Document, integer}
use Rattle.simd_json_parts.specs.Integers.{integer_node}
use Rattle.simd_json_parts.specs.declared.node.StaticNode.{StaticNode}
use Rattle.simd_json_parts.specs.StringAt.{closing_quote}
use Rattle.simd_json_parts.specs.Tokens.{Form, begin_array, begin_object, string_token, scalar}
use Rattle.simd_json_parts.specs.Views.{value_type}
use Rattle.simd_json_parts.specs.declared.node.ValueType.{ValueType}
use Rattle.simd_json_parts.specs.declared.node.ValueType.TheVariants as kinds

-- of a string its kind alone, even if it has a bad escape
abbrev pub kind_of : Form → Option ValueType
kind_of begin_array = Some kinds.Array
kind_of begin_object = Some kinds.Object
kind_of (string_token read) = Some kinds.String
kind_of (scalar (Ok s)) = Some (value_type s.0)
kind_of _ = None

abbrev pub opens_array : Form → Bool
opens_array begin_array = true
opens_array _ = false

abbrev pub opens_object : Form → Bool
opens_object begin_object = true
opens_object _ = false

-- the node of the integer there
abbrev pub IsInteger : StaticNode → Option Document → Type 0
IsInteger node o = (minus : Bool) × (n : ℕ) × (o ≡ Some (integer minus n)) × (node ≡ integer_node minus n)

-- where the string at index i, even one that has a bad escape, or the scalar there ends
abbrev pub literal_end : List ℕ → ℕ → Form → Option ℕ
literal_end b i (string_token read) = Some (suc (closing_quote b i))
literal_end b i (scalar (Ok s)) = Some s.1
literal_end b i _ = None
