-- What is left of an array or an object at a place inside it, by the structural indexes from there on. None where no
-- such container goes on and ends there.
use Rattle.std.specs.Prelude.{ℕ, List, length, drop, Option, Some, None, Result, Ok, Err}
use Rattle.simd_json_parts.specs.Document.{Document, Elements, elements, Members, members}
use Rattle.simd_json_parts.specs.Descent.{Reads, value_from, element_end, elements_by, array_from, member_end, members_by, object_from}
use Rattle.simd_json_parts.specs.Faults.{fault_at}
use Rattle.simd_json_parts.specs.Tokens.{Token}
use Rattle.simd_json_parts.specs.TokensAlong.{tokens_along}
use Rattle.simd_json_parts.specs.declared.error.Error.{Error}
use Rattle.simd_json_parts.specs.declared.error.ErrorType.TheVariants.{Syntax, ExpectedObjectKey}
use Rattle.simd_json_ondemand.specs.Closing.{span}

module _ (b : List ℕ) where
  -- a value at the first of some tokens, however deep it nests
  abbrev pub value_at_first : Reads Document
  value_at_first ts = value_from b (fault_at b Syntax 0) (length ts) ts

  -- ---- the elements of an array

  abbrev pub listed : Result (Elements × List Token) Error → Option (List Document)
  listed (Ok r) = Some (elements r.0)
  listed (Err e) = None

  -- from the token after the opening bracket on
  abbrev pub elements_inside : List ℕ → Option (List Document)
  elements_inside is = listed (array_from b (fault_at b Syntax 0) value_at_first (tokens_along b is))

  -- from the token after an element on
  abbrev pub elements_behind : List ℕ → Option (List Document)
  elements_behind is = listed (element_end b (fault_at b Syntax 0) (tokens_along b is) (elements_by b (fault_at b Syntax 0) value_at_first))

  -- after the element that begins here
  abbrev pub elements_past : List ℕ → Option (List Document)
  elements_past is = elements_behind (drop (span b is) is)

  -- ---- the members of an object

  abbrev pub paired : Result (Members × List Token) Error → Option (List (List ℕ × Document))
  paired (Ok r) = Some (members r.0)
  paired (Err e) = None

  -- from the token after the opening brace on
  abbrev pub members_inside : List ℕ → Option (List (List ℕ × Document))
  members_inside is = paired (object_from b (fault_at b Syntax 0) value_at_first (tokens_along b is))

  -- from the token after a member on
  abbrev pub members_behind : List ℕ → Option (List (List ℕ × Document))
  members_behind is = paired (member_end b (fault_at b Syntax 0) (tokens_along b is)
      (members_by b (fault_at b Syntax 0) value_at_first ExpectedObjectKey))

  -- after the member whose value begins here
  abbrev pub members_past : List ℕ → Option (List (List ℕ × Document))
  members_past is = members_behind (drop (span b is) is)
