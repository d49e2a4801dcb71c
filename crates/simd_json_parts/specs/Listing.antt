-- The tape of a document: its nodes in preorder. Acceptance rests on it.
use Rattle.std.specs.Prelude.{List, [], ◌∷◌, ◌++◌, length}
use Rattle.simd_json_parts.specs.Document.{Document, null, boolean, integer, decimal, string, array, object, Elements}
use Rattle.simd_json_parts.specs.Document.{no_elements, element, elements, Members, no_members, member, members}
use Rattle.simd_json_parts.specs.Integers.{integer_node}
use Rattle.simd_json_parts.specs.Nodes.{Item, static_item, decimal_item, string_item, array_item, object_item}
use Rattle.simd_json_parts.specs.declared.node.StaticNode.TheVariants as fixed

abbrev mutual
  pub listing : Document → List Item
  listing null = static_item fixed.Null ∷ []
  listing (boolean b) = static_item (fixed.Bool b) ∷ []
  listing (integer minus n) = static_item (integer_node minus n) ∷ []
  listing (decimal literal) = decimal_item literal ∷ []
  listing (string t) = string_item t ∷ []
  listing (array ds) = array_item (length (elements ds)) (length (elements_listing ds)) ∷ elements_listing ds
  listing (object ms) = object_item (length (members ms)) (length (members_listing ms)) ∷ members_listing ms

  pub elements_listing : Elements → List Item
  elements_listing no_elements = []
  elements_listing (element d ds) = listing d ++ elements_listing ds

  pub members_listing : Members → List Item
  members_listing no_members = []
  members_listing (member k d ms) = string_item k ∷ (listing d ++ members_listing ms)
