-- When two nodes are equal, as the code compares them: integers by number, headers by `len` and `count`, strings
-- and decimals by their bytes. The contract of a law cites it.
use Rattle.std.specs.Prelude.{List, Bool, false, ◌&&◌, ◌==◌, bytes_eq}
use Rattle.std.specs.Cmp.Lexicographic.{pointwise}
use Rattle.simd_json_parts.specs.Nodes.{Item, static_item, decimal_item, string_item, array_item, object_item}
use Rattle.simd_json_parts.specs.StaticNodes.{same_static}

abbrev pub same_item : Item → Item → Bool
same_item (static_item a) (static_item b) = same_static a b
same_item (decimal_item a) (decimal_item b) = bytes_eq a b
same_item (string_item a) (string_item b) = bytes_eq a b
same_item (array_item len count) (array_item len' count') = (len == len') && (count == count')
same_item (object_item len count) (object_item len' count') = (len == len') && (count == count')
same_item _ _ = false

-- as many, each equal to the one at its place
abbrev pub same_items : List Item → List Item → Bool
same_items = pointwise same_item
