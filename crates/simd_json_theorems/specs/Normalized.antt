-- A document with no sign on a zero, which its printed text denotes. The contracts of laws cite it.
use Rattle.std.specs.Prelude.{not, ◌&&◌, ◌==◌}
use Rattle.simd_json_parts.specs.Document.{Document, null, boolean, integer, decimal, string, array}
use Rattle.simd_json_parts.specs.Document.{object, Elements, no_elements, element, Members, no_members, member}

-- equal documents are those that are then the same
abbrev mutual
  pub normalized : Document → Document
  normalized null = null
  normalized (boolean b) = boolean b
  normalized (integer minus n) = integer (minus && not (n == 0)) n
  normalized (decimal literal) = decimal literal
  normalized (string t) = string t
  normalized (array ds) = array (normalized_elements ds)
  normalized (object ms) = object (normalized_members ms)

  pub normalized_elements : Elements → Elements
  normalized_elements no_elements = no_elements
  normalized_elements (element d ds) = element (normalized d) (normalized_elements ds)

  pub normalized_members : Members → Members
  normalized_members no_members = no_members
  normalized_members (member k d ms) = member k (normalized d) (normalized_members ms)
