-- Nodes in the caller's memory that list a document, with their texts, and the places of its values there.
use Rattle.std.specs.Prelude.{◌≡◌, ◌+◌, ◌-◌, ◌^◌, ◌==◌, ℕ, suc, Bool, List, [], ◌∷◌, length, take, drop, bytes_eq, unwrap_or}
use Rattle.std.specs.Prelude.{if◌then◌else◌, Option, Some, None, option_map, ⊤}
use Rattle.std.specs.Result.{result_ok}
use Rattle.simd_json_parts.specs.Document.{Document, array, object, Elements, element, Members, no_members, member}
use Rattle.simd_json_parts.specs.Followed.{tokens_after}
use Rattle.simd_json_parts.specs.Listing.{listing}
use Rattle.simd_json_parts.specs.Nodes.{Item}
use Rattle.simd_json_parts.specs.Pointed.{array_index, named, unescaped}
use Rattle.simd_json_stages.specs.Placed.{IsTextOf}
use Rattle.simd_json_c.specs.Cells.{item_cell}
use Rattle.simd_json_c.specs.declared.cells.Cell.{Cell}

-- a node is that of an item, and the item's text, if it has one, lies where the node says
pub record IsNodeOf (text : List ℕ) (node : Cell) (item : Item) : Type 0 where
  pub at : ℕ
  pub part : List ℕ
  pub node_is : node ≡ item_cell at (length part) item
  pub there : take (length part) (drop at text) ≡ part
  pub is_text : IsTextOf item part

-- the nodes begin with those of the items
abbrev pub AreFirst : List ℕ → List Item → List Cell → Type 0
AreFirst text [] nodes = ⊤
AreFirst text (x ∷ ns) [] = ⊥
AreFirst text (x ∷ ns) (node ∷ nodes) = IsNodeOf text node x × AreFirst text ns nodes

-- these lie at an index of the nodes
abbrev pub AreAt : List Cell → List ℕ → ℕ → List Item → Type 0
AreAt nodes text i ns = AreFirst text ns (drop i nodes)

-- a value lies there
abbrev pub IsValueAt : List Cell → List ℕ → ℕ → Document → Type 0
IsValueAt nodes text i d = AreAt nodes text i (listing d)

-- ---- how many nodes of a value stand before one that is in it

-- of the elements, before the one with an index
abbrev pub before_element : Elements → ℕ → ℕ
before_element (element d ds) (suc i) = length (listing d) + before_element ds i
before_element ds i = 0

-- of the pairs, before the value of the first one with a key; this key is one of them
abbrev pub before_member : Members → List ℕ → ℕ
before_member no_members key = 0
before_member (member k d ms) key = if bytes_eq k key then 1 else suc (length (listing d) + before_member ms key)

-- before the one that has a key; the header is one of them
abbrev pub before_get : List ℕ → Document → ℕ
before_get key (object ms) = suc (before_member ms key)
before_get key d = 0

-- before the one that a token names
abbrev pub before_named : List ℕ → Document → ℕ
before_named t (array ds) = suc (before_element ds (unwrap_or (array_index t) 0))
before_named t (object ms) = suc (before_member ms (unwrap_or (unescaped t) []))
before_named t d = 0

-- each token names a value in the value before it
abbrev pub before_followed : List (List ℕ) → Document → ℕ
before_followed [] d = 0
before_followed (t ∷ ts) d = before_named t d + unwrap_or (option_map (before_followed ts) (result_ok (named t d))) 0

abbrev pub before_pointed : List ℕ → Document → ℕ
before_pointed pointer d = before_followed (tokens_after pointer) d

-- the key that a token is: as it stands, or with its escapes decoded
abbrev pub token_key : Bool → List ℕ → Option (List ℕ)
token_key is_plain t = if is_plain then Some t else unescaped t

-- ---- what is returned

-- the index that is returned, which the greatest number is not
abbrev pub found_index : ℕ → Option ℕ
found_index i = if i == 2 ^ 64 - 1 then None else Some i

-- the value lies at the index, which is `place`, or there is none
abbrev pub IsFound : List Cell → List ℕ → Option ℕ → ℕ → Option Document → Type 0
IsFound nodes text None place value = value ≡ None
IsFound nodes text (Some i) place value = (d : Document) × (value ≡ Some d) × (i ≡ place) × IsValueAt nodes text i d
