-- What contracts see of a cursor over members.
use Rattle.std.specs.Prelude.{ℕ, List, map, Option, Some}
use Rattle.simd_json_parts.specs.Document as parts
use Rattle.simd_json_ondemand.specs.Docs.{doc}
use Rattle.simd_json_ondemand.specs.Walked.{members_ahead, members_from_first}
use Rattle.simd_json_ondemand.specs.Walks.{items}
use Rattle.simd_json_ondemand.specs.declared.object.Object.{Object}
use Rattle.simd_json_ondemand.specs.declared.value.Value.{Value}

-- of each member that it comes to the documents that begin at the key and at the value, if they do
abbrev pub members_left : Object → List (Option parts.Document × Option parts.Document)
members_left o = items (members_ahead o)

-- the same of all members of the object
abbrev pub all_members_in : Object → List (Option parts.Document × Option parts.Document)
all_members_in o = items (members_from_first o)

abbrev pub pair_doc : Value × Value → Option parts.Document × Option parts.Document
pair_doc p = (doc p.0, doc p.1)

-- each of these, where a cursor comes to it: the key is a string
abbrev pub all_members : List (List ℕ × parts.Document) → List (Option parts.Document × Option parts.Document)
all_members = map (λ m. (Some (parts.string m.0), Some m.1))
