-- How large a document is: a measure for a walk that recurses. A member is smaller than what it is a member of.
use Rattle.std.specs.Prelude.{ℕ, suc, ◌+◌, List, [], ◌∷◌}
use Rattle.simd_json_parts.specs.Document.{Document, array, object, Elements, no_elements, element, Members, no_members, member}

-- the values in it, and itself
abbrev mutual
  pub size : Document → ℕ
  size (array ds) = suc (elements_size ds)
  size (object ms) = suc (members_size ms)
  size _ = 1

  pub elements_size : Elements → ℕ
  elements_size no_elements = 0
  elements_size (element d ds) = size d + elements_size ds

  pub members_size : Members → ℕ
  members_size no_members = 0
  members_size (member k d ms) = size d + members_size ms

-- of documents and of pairs that are left
abbrev pub sizes : List Document → ℕ
sizes [] = 0
sizes (d ∷ ds) = size d + sizes ds

abbrev pub pair_sizes : List (List ℕ × Document) → ℕ
pair_sizes [] = 0
pair_sizes (m ∷ ms) = size m.1 + pair_sizes ms
