-- A document and the documents beneath it, in the order of the text: each before those beneath it. The name of a pair
-- is none of them.
use Rattle.std.specs.Prelude.{ℕ, zero, suc, List, [], ◌∷◌, ◌++◌, filter, flat_map}
use Rattle.simd_json_parts.specs.Descent.{is_container}
use Rattle.simd_json_parts.specs.Document.{Document, array, object, Elements, no_elements, element, elements, Members, no_members, member}
use Rattle.simd_json_parts.specs.Views.{values}

-- the elements of an array, the values of an object
abbrev pub children : Document → List Document
children (array ds) = elements ds
children (object ms) = values ms
children _ = []

-- at most so many levels beneath it
abbrev pub beneath : ℕ → Document → List Document
beneath zero d = d ∷ []
beneath (suc n) d = d ∷ flat_map (beneath n) (children d)

-- all of them
abbrev mutual
  pub descendants : Document → List Document
  descendants (array ds) = array ds ∷ among_elements ds
  descendants (object ms) = object ms ∷ among_members ms
  descendants d = d ∷ []

  pub among_elements : Elements → List Document
  among_elements no_elements = []
  among_elements (element d ds) = descendants d ++ among_elements ds

  pub among_members : Members → List Document
  among_members no_members = []
  among_members (member k d ms) = descendants d ++ among_members ms

-- ---- the arrays and objects among them

abbrev pub containers : Document → List Document
containers d = filter is_container (descendants d)
