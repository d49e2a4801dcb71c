-- What contracts see of a cursor.
use Rattle.std.specs.Prelude.{List, map, Option, Some}
use Rattle.simd_json_parts.specs.Document as parts
use Rattle.simd_json_ondemand.specs.Walked.{elements_ahead}
use Rattle.simd_json_ondemand.specs.Walks.{items}
use Rattle.simd_json_ondemand.specs.declared.array.Array.{Array}

-- of each element that it comes to the document of the grammar that begins there, if one does
abbrev pub elements_to_come : Array → List (Option parts.Document)
elements_to_come a = items (elements_ahead a)

-- each of these begins, where a cursor comes to it
abbrev pub all_some : List parts.Document → List (Option parts.Document)
all_some = map (λ d. Some d)
