-- How deep a document nests, and what a parser accepts of the grammar (RFC 8259, section 9). Acceptance rests on it.
use Rattle.std.specs.Prelude.{ℕ, suc, ◌≤◌, max, List, length, ⊤}
use Rattle.simd_json_parts.specs.Document.{Document, null, boolean, integer, decimal, string, array, object, Elements}
use Rattle.simd_json_parts.specs.Document.{no_elements, element, Members, no_members, member}
use Rattle.simd_json_parts.specs.Integers.{max_magnitude}

abbrev mutual
  pub depth : Document → ℕ
  depth null = 0
  depth (boolean b) = 0
  depth (integer minus n) = 0
  depth (decimal literal) = 0
  depth (string t) = 0
  depth (array ds) = suc (elements_depth ds)
  depth (object ms) = suc (members_depth ms)

  -- the greatest depth among them, 0 where there are none
  pub elements_depth : Elements → ℕ
  elements_depth no_elements = 0
  elements_depth (element d ds) = max (depth d) (elements_depth ds)

  pub members_depth : Members → ℕ
  members_depth no_members = 0
  members_depth (member k d ms) = max (depth d) (members_depth ms)

-- each integer is in the range of its sign
abbrev mutual
  pub IntegersFit : Document → Type 0
  IntegersFit null = ⊤
  IntegersFit (boolean b) = ⊤
  IntegersFit (integer minus n) = n ≤ max_magnitude minus
  IntegersFit (decimal literal) = ⊤
  IntegersFit (string t) = ⊤
  IntegersFit (array ds) = ElementsFit ds
  IntegersFit (object ms) = MembersFit ms

  pub ElementsFit : Elements → Type 0
  ElementsFit no_elements = ⊤
  ElementsFit (element d ds) = IntegersFit d × ElementsFit ds

  pub MembersFit : Members → Type 0
  MembersFit no_members = ⊤
  MembersFit (member k d ms) = IntegersFit d × MembersFit ms

abbrev pub max_length : ℕ
max_length = 4_294_967_295

pub record WithinLimits (b : List ℕ) (d : Document) (limit : ℕ) : Type 0 where
  pub size : length b ≤ max_length
  pub nesting : depth d ≤ limit
  pub integers : IntegersFit d
