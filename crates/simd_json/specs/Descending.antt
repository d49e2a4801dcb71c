-- What is left to the iterators over a value and the values beneath it, by the nodes and the open containers that are left.
use Rattle.std.specs.Prelude.{ℕ, suc, Bool, true, false, List, [], ◌∷◌, ◌++◌, drop, filter, flat_map, map}
use Rattle.simd_json_parts.specs.Descent.{is_container}
use Rattle.simd_json_parts.specs.Document.{Document, string, array, object, Elements, no_elements}
use Rattle.simd_json_parts.specs.Document.{element, elements, Members, no_members, member}
use Rattle.simd_json_parts.specs.Nodes.{item_of}
use Rattle.simd_json_parts.specs.Views.{values}
use Rattle.simd_json.specs.Beneath.{among_elements, beneath}
use Rattle.simd_json.specs.Documents.{elements_of, front, other_elements, front_pairs, other_pairs}
use Rattle.simd_json.specs.declared.value.tape.containers.Containers.{Containers}
use Rattle.simd_json.specs.declared.value.tape.descendants.Descendants.{Descendants}
use Rattle.simd_json.specs.declared.value.tape.descendants.Open.{Open}
use Rattle.simd_json.specs.declared.value.tape.descendants.Levels.{Levels}
use Rattle.simd_json.specs.declared.value.tape.descendants.Siblings.{Siblings}

-- ---- documents in a row, where the name of a pair is one of them

abbrev pub in_row : Siblings → Elements
in_row r = elements_of (map item_of r.nodes.now)

abbrev pub elements_joined : Elements → Elements → Elements
elements_joined no_elements es = es
elements_joined (element d ds) es = element d (elements_joined ds es)

-- pairs as the documents that their nodes list
abbrev pub flat : Members → Elements → Elements
flat no_members es = es
flat (member k d ms) es = element (string k) (element d (flat ms es))

-- what the first one has in it, then the others
abbrev pub unpacked : Elements → Elements
unpacked no_elements = no_elements
unpacked (element (array es) ds) = elements_joined es ds
unpacked (element (object ms) ds) = flat ms ds
unpacked (element d ds) = ds

-- the values of so many members, of an object or of an array, and the documents after these members
abbrev pub inside : Bool → ℕ → Elements → List Document
inside true n ds = values (front_pairs n ds)
inside false n ds = elements (front n ds)

abbrev pub outside : Bool → ℕ → Elements → Elements
outside true n ds = other_pairs n ds
outside false n ds = other_elements n ds

-- ---- what is left

-- of the members of the first of these containers at most so many levels, of each next one a level more
abbrev pub left_by : ℕ → List Open → Elements → List Document
left_by n [] ds = flat_map (beneath n) (elements ds)
left_by n (l ∷ ls) ds = flat_map (beneath n) (inside l.is_object l.left ds) ++ left_by (suc n) ls (outside l.is_object l.left ds)

-- where the row begins with a member that is counted no more
abbrev pub left_with : ℕ → List Open → Elements → List Document
left_with n ls no_elements = []
left_with n ls (element d ds) = beneath n d ++ left_by n ls ds

module _ {DEPTH : ℕ} where
  abbrev pub left_open : Levels DEPTH → Elements → List Document
  left_open l ds = left_by l.innermost (drop l.innermost l.all) ds

  abbrev pub left_begun : Levels DEPTH → Elements → List Document
  left_begun l ds = left_with l.innermost (drop l.innermost l.all) ds

  abbrev pub descendants_left : Descendants DEPTH → List Document
  descendants_left it = left_open it.levels (in_row it.row)

-- ---- of the arrays and objects

abbrev pub containers_left : Containers → List Document
containers_left it = filter is_container (among_elements (in_row it.row))
