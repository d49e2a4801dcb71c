-- What a contract sees of a tape, and what its nodes are.
use Rattle.std.specs.Prelude.{◌≡◌, ◌⊎◌, ℕ, List, [], ◌++◌, map}
use Rattle.simd_json_parts.specs.Document.{Document}
use Rattle.simd_json_parts.specs.Limits.{IntegersFit}
use Rattle.simd_json_parts.specs.Listing.{listing}
use Rattle.simd_json_parts.specs.Nodes.{Item, item_of}
use Rattle.simd_json_parts.specs.declared.node.Node.{Node}
use Rattle.simd_json_theorems.specs.Spellable.{IsSpellable}

-- the nodes, and for how many there is capacity
pub record Listed : Type 0 where
  pub nodes : List Item
  pub capacity : ℕ

-- how the list of a tape is seen
abbrev pub listed_of : List Node → ℕ → Listed
listed_of list capacity = record { nodes = map item_of list; capacity = capacity }

-- the nodes begin with the listing of the document
abbrev pub StandsFor : List Node → Document → Type 0
StandsFor ns d = (rest : List Item) × (map item_of ns ≡ listing d ++ rest)

-- what a tape holds: nothing, or one document that can be spelled and whose integers fit
abbrev pub IsTapeContent : List Item → Type 0
IsTapeContent ns = (ns ≡ []) ⊎ ((d : Document) × IsSpellable d × IntegersFit d × (ns ≡ listing d))
