-- The lines that the program prints: of a tape one for each node, of positions one for each.
use Rattle.std.specs.Prelude.{ℕ, List, [], ◌∷◌, ◌++◌, flat_map, codes}
use Rattle.std.specs.Fmt.{decimal, signed_decimal}
use Rattle.simd_json_parts.specs.Bytes.{line_feed}
use Rattle.simd_json_parts.specs.Nodes.{Item, static_item, decimal_item, string_item, array_item, object_item}
use Rattle.simd_json_parts.specs.Printed.{quoted, truth_text}
use Rattle.simd_json_parts.specs.declared.node.StaticNode.{StaticNode}
use Rattle.simd_json_parts.specs.declared.node.StaticNode.TheVariants.{Null, Bool, I64, U64, I128, U128}

abbrev pub typed_text : StaticNode → List ℕ
typed_text Null = codes "Null"
typed_text (Bool b) = codes "Bool " ++ truth_text b
typed_text (I64 z) = codes "I64 " ++ signed_decimal z
typed_text (U64 n) = codes "U64 " ++ decimal n
typed_text (I128 z) = codes "I128 " ++ signed_decimal z
typed_text (U128 n) = codes "U128 " ++ decimal n

-- of a container: its kind, `len` and `count`
abbrev pub header_text : List ℕ → ℕ → ℕ → List ℕ
header_text kind len count = kind ++ decimal len ++ codes " " ++ decimal count

abbrev pub node_text : Item → List ℕ
node_text (static_item s) = typed_text s
node_text (decimal_item literal) = codes "Decimal " ++ literal
node_text (string_item t) = codes "String " ++ quoted t
node_text (array_item len count) = header_text (codes "Array ") len count
node_text (object_item len count) = header_text (codes "Object ") len count

abbrev pub node_line : Item → List ℕ
node_line node = node_text node ++ line_feed ∷ []

abbrev pub lines : List Item → List ℕ
lines nodes = flat_map node_line nodes

-- a number in decimal
abbrev pub number_line : ℕ → List ℕ
number_line n = decimal n ++ line_feed ∷ []

abbrev pub number_lines : List ℕ → List ℕ
number_lines numbers = flat_map number_line numbers
