-- The kind of a node. Neither acceptance nor faults rest on it.
use Rattle.simd_json_parts.specs.Nodes.{Item, static_item, decimal_item, string_item, array_item, object_item}
use Rattle.simd_json_parts.specs.declared.node.StaticNode.{StaticNode}
use Rattle.simd_json_parts.specs.declared.node.StaticNode.TheVariants as fixed
use Rattle.simd_json_parts.specs.declared.node.ValueType.{ValueType}
use Rattle.simd_json_parts.specs.declared.node.ValueType.TheVariants as kinds

abbrev pub static_type : StaticNode → ValueType
static_type fixed.Null = kinds.Null
static_type (fixed.Bool b) = kinds.Bool
static_type (fixed.I64 z) = kinds.I64
static_type (fixed.U64 n) = kinds.U64
static_type (fixed.I128 z) = kinds.I128
static_type (fixed.U128 n) = kinds.U128

abbrev pub item_type : Item → ValueType
item_type (static_item s) = static_type s
item_type (decimal_item literal) = kinds.Decimal
item_type (string_item t) = kinds.String
item_type (array_item len count) = kinds.Array
item_type (object_item len count) = kinds.Object
