-- What contracts see of a cursor whose walk may stop, and of the array or the object that begins at a value.
use Rattle.std.specs.Prelude.{◌+◌, ℕ, List, drop, Option, Result, ok_or, option_map, if◌then◌else◌}
use Rattle.simd_json_parts.specs.Accessors.{Accessor}
use Rattle.simd_json_parts.specs.Document as parts
use Rattle.simd_json_parts.specs.Tokens.{Form, string_token}
use Rattle.simd_json_ondemand.specs.Docs.{text, places, form, as_standing}
use Rattle.simd_json_ondemand.specs.Standing.{opens_array, opens_object}
use Rattle.simd_json_ondemand.specs.Unexpected.{unexpected}
use Rattle.simd_json_ondemand.specs.Viewed.{read_along}
use Rattle.simd_json_ondemand.specs.Walks.{Walk, stopped, first, elements_seen, members_seen, elements_walk, members_walk}
use Rattle.simd_json_parts.specs.Views.{ok_map}
use Rattle.simd_json_ondemand.specs.Walks.{pair_along, walk_from}
use Rattle.simd_json_ondemand.specs.declared.array.Array.{Array}
use Rattle.simd_json_ondemand.specs.declared.array.Position.TheVariants.{First}
use Rattle.simd_json_ondemand.specs.declared.object.Object.{Object}
use Rattle.simd_json_ondemand.specs.declared.unexpected.Expected.{Expected}
use Rattle.simd_json_ondemand.specs.declared.unexpected.Expected.TheVariants.{Kind, PlainString}
use Rattle.simd_json_ondemand.specs.declared.unexpected.Unexpected.{Unexpected}
use Rattle.simd_json_ondemand.specs.declared.value.Value.{Value}
use Rattle.simd_json_parts.specs.declared.node.ValueType.TheVariants as kinds

abbrev pub elements_ahead : Array → Walk (Option parts.Document)
elements_ahead a = elements_walk (text a.document) a.position (drop a.at (places a.document))

abbrev pub members_ahead : Object → Walk (Option parts.Document × Option parts.Document)
members_ahead o = members_walk (text o.document) o.position (drop o.at (places o.document))

-- the same of all members of the object
abbrev pub members_from_first : Object → Walk (Option parts.Document × Option parts.Document)
members_from_first o = members_walk (text o.document) First (drop o.first (places o.document))

-- the error that something else was expected of the value
abbrev pub unexpected_here : Expected → Value → Unexpected
unexpected_here expected v = unexpected (text v.document) expected (drop v.at (places v.document))

-- what an accessor returns of it, or that a value of its kind was expected
abbrev pub tried : {A : Type 0} → Accessor A → Value → Result A Unexpected
tried t v = ok_or (as_standing t v) (unexpected_here (Kind t.expected) v)

-- a string, and of one that it has no escape
abbrev pub string_wanted : Form → Expected
string_wanted (string_token read) = PlainString
string_wanted _ = Kind kinds.String

-- what is seen of the elements of the value, if an array begins there
abbrev pub array_seen : {A : Type 0} → (List ℕ → A) → Value → Walk A
array_seen view v =
    if opens_array (form v) then elements_seen view (text v.document) First (drop (v.at + 1) (places v.document))
    else stopped (unexpected_here (Kind kinds.Array) v)

-- of its members, if an object begins there
abbrev pub object_seen : {A : Type 0} → (List ℕ → A) → Value → Walk A
object_seen view v =
    if opens_object (form v) then members_seen view (text v.document) First (drop (v.at + 1) (places v.document))
    else stopped (unexpected_here (Kind kinds.Object) v)

-- the documents that begin at them
abbrev pub array_walk : Value → Walk (Option parts.Document)
array_walk v = array_seen (read_along (text v.document)) v

abbrev pub object_walk : Value → Walk (Option parts.Document × Option parts.Document)
object_walk v = object_seen (pair_along (text v.document)) v

-- the value of the first member with the key
abbrev pub member_with : List ℕ → Walk (Option parts.Document × Option parts.Document) → Result (Option (Option parts.Document)) Unexpected
member_with key w = ok_map (option_map (λ m. m.1)) (first (walk_from key w))
