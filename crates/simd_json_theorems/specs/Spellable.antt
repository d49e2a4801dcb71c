-- Documents that some bytes spell. A tree may hold any bytes as a decimal or a string; what bytes denote is
-- spellable, and it is asked of a tape, since only such a document can be printed and read again (RFC 8259,
-- sections 6 and 7). The contracts of laws cite it.
use Rattle.std.specs.Prelude.{⊤, IsUtf8}
use Rattle.simd_json_parts.specs.Document.{Document, null, boolean, integer, decimal, string, array}
use Rattle.simd_json_parts.specs.Document.{object, Elements, no_elements, element, Members, no_members, member}
use Rattle.simd_json_parts.specs.Numbers.{decimal_literal}
use Rattle.simd_json_parts.specs.Patterns.{Matches}

-- Each decimal is a literal, and each string and name is UTF-8.
abbrev mutual
  pub IsSpellable : Document → Type 0
  IsSpellable null = ⊤
  IsSpellable (boolean b) = ⊤
  IsSpellable (integer minus n) = ⊤
  IsSpellable (decimal literal) = Matches decimal_literal literal
  IsSpellable (string t) = IsUtf8 t
  IsSpellable (array ds) = ElementsSpellable ds
  IsSpellable (object ms) = MembersSpellable ms

  pub ElementsSpellable : Elements → Type 0
  ElementsSpellable no_elements = ⊤
  ElementsSpellable (element d ds) = IsSpellable d × ElementsSpellable ds

  pub MembersSpellable : Members → Type 0
  MembersSpellable no_members = ⊤
  MembersSpellable (member k d ms) = IsUtf8 k × IsSpellable d × MembersSpellable ms
