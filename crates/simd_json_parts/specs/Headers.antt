-- What the first node of a listing says of the rest. It serves proofs: contracts of laws and readers cite it.
use Rattle.std.specs.Prelude.{◌≡◌, ℕ, List, ◌∷◌, length}
use Rattle.simd_json_parts.specs.Document.{Document}
use Rattle.simd_json_parts.specs.Nodes.{Item, array_item, object_item}
use Rattle.simd_json_parts.specs.NodeTypes.{item_type}
use Rattle.simd_json_parts.specs.Listing.{listing}
use Rattle.simd_json_parts.specs.Views.{member_count, value_type}

-- how many members follow the node, and how many nodes lie beneath it
abbrev pub len_of : Item → ℕ
len_of (array_item len count) = len
len_of (object_item len count) = len
len_of _ = 0

abbrev pub count_of : Item → ℕ
count_of (array_item len count) = count
count_of (object_item len count) = count
count_of _ = 0

-- the listing is a first node, and after it as many as its `count` says
pub record IsHeaded (d : Document) : Type 0 where
  pub first : Item
  pub rest : List Item
  pub whole : listing d ≡ first ∷ rest
  pub beneath : length rest ≡ count_of first
  pub len : len_of first ≡ member_count d
  pub kind : item_type first ≡ value_type d
