-- What a JSON text says (RFC 8259, sections 3 to 7): a tree. Acceptance rests on it.
-- A string is the UTF-8 of its characters. A decimal keeps its literal. An integer has a mark, whether `-` was
-- written, and a magnitude.
use Rattle.std.specs.Prelude.{ℕ, Bool, List, [], ◌∷◌}

mutual
  pub data Document : Type 0 where
    null : Document
    boolean : Bool → Document
    integer : Bool → ℕ → Document
    decimal : List ℕ → Document
    string : List ℕ → Document
    array : Elements → Document
    object : Members → Document

  -- documents in a row
  pub data Elements : Type 0 where
    no_elements : Elements
    element : Document → Elements → Elements

  -- pairs of a name and a document in a row; a name may come twice
  pub data Members : Type 0 where
    no_members : Members
    member : List ℕ → Document → Members → Members

abbrev pub elements : Elements → List Document
elements no_elements = []
elements (element d ds) = d ∷ elements ds

abbrev pub members : Members → List (List ℕ × Document)
members no_members = []
members (member k d ms) = (k, d) ∷ members ms
