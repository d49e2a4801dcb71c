-- Where walks lead, over any bytes: of each item where it is.
use Rattle.std.specs.Prelude.{ℕ, List, drop, Option}
use Rattle.simd_json_parts.specs.Document as parts
use Rattle.simd_json_ondemand.specs.Docs.{text, places}
use Rattle.simd_json_ondemand.specs.Viewed.{read_along}
use Rattle.simd_json_ondemand.specs.Walked.{array_seen, object_seen}
use Rattle.simd_json_ondemand.specs.Walks.{Walk, elements_seen, members_seen}
use Rattle.simd_json_ondemand.specs.declared.array.Array.{Array}
use Rattle.simd_json_ondemand.specs.declared.object.Object.{Object}
use Rattle.simd_json_ondemand.specs.declared.value.Value.{Value}

-- where a value is: the input, and the structural indexes from its first on
abbrev pub Site : Type 0
Site = List ℕ × List ℕ

abbrev pub site : Value → Site
site v = (text v.document, drop v.at (places v.document))

-- the document that begins there, if one does
abbrev pub doc_at : Site → Option parts.Document
doc_at s = read_along s.0 s.1

-- of an element, from its first index on, and of a key and its value
abbrev pub element_site : List ℕ → List ℕ → Site
element_site b is = (b, is)

abbrev pub pair_sites : List ℕ → List ℕ → Site × Site
pair_sites b is = ((b, is), (b, drop 2 is))

abbrev pub pair_site : Value × Value → Site × Site
pair_site p = (site p.0, site p.1)

-- of the elements and the members that a cursor comes to
abbrev pub element_sites : Array → Walk Site
element_sites a = let b = text a.document in elements_seen (element_site b) b a.position (drop a.at (places a.document))

abbrev pub member_sites : Object → Walk (Site × Site)
member_sites o = let b = text o.document in members_seen (pair_sites b) b o.position (drop o.at (places o.document))

-- and of those of the value, if an array or an object begins there
abbrev pub array_sites : Value → Walk Site
array_sites v = array_seen (element_site (text v.document)) v

abbrev pub object_sites : Value → Walk (Site × Site)
object_sites v = object_seen (pair_sites (text v.document)) v
