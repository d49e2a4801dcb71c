-- The nodes of a tape, as contracts see them. Acceptance rests on it.
use Rattle.std.specs.Prelude.{ℕ, List}
use Rattle.simd_json_parts.specs.declared.node.StaticNode.{StaticNode}
use Rattle.simd_json_parts.specs.declared.node.Node.{Node}
use Rattle.simd_json_parts.specs.declared.node.Node.TheVariants as nodes

-- a node without where its string lies in memory
pub data Item : Type 0 where
  static_item : StaticNode → Item
  decimal_item : List ℕ → Item
  string_item : List ℕ → Item
  -- of `len` members, with `count` nodes beneath
  array_item : ℕ → ℕ → Item
  object_item : ℕ → ℕ → Item

abbrev pub item_of : Node → Item
item_of (nodes.String s) = string_item s.now
item_of (nodes.Object len count) = object_item len count
item_of (nodes.Array len count) = array_item len count
item_of (nodes.Static s) = static_item s
item_of (nodes.Decimal s) = decimal_item s.now
