-- What contracts see of a view: the document of a value, the documents of an array, the pairs of an object.
use Rattle.std.specs.Prelude.{map}
use Rattle.simd_json_parts.specs.Document.{Document, Elements, Members}
use Rattle.simd_json_parts.specs.Nodes.{item_of}
use Rattle.simd_json.specs.Documents.{document_of, elements_of, members_of}
use Rattle.simd_json.specs.declared.value.tape.array.Array.{Array}
use Rattle.simd_json.specs.declared.value.tape.object.Object.{Object}
use Rattle.simd_json.specs.declared.value.tape.value.Value.{Value}

abbrev pub doc : Value → Document
doc v = document_of (map item_of v.nodes.now)

abbrev pub docs : Array → Elements
docs a = elements_of (map item_of a.nodes.now)

abbrev pub pairs : Object → Members
pairs o = members_of (map item_of o.nodes.now)
