-- What contracts see of a result that holds a reference or a view: the bytes of a string, the values of an array,
-- the pairs of an object.
use Rattle.std.specs.Prelude.{ℕ, List}
use Rattle.simd_json_parts.specs.Document.{Document, elements, members}
use Rattle.simd_json.specs.Viewed.{docs, pairs}
use Rattle.simd_json.specs.declared.value.tape.array.Array.{Array}
use Rattle.simd_json.specs.declared.value.tape.object.Object.{Object}

abbrev pub items : Array → List Document
items a = elements (docs a)

abbrev pub entries : Object → List (List ℕ × Document)
entries o = members (pairs o)
