-- What is printed in a layout, and of a node that has no members.
use Rattle.std.specs.Prelude.{ℕ, List, codes, Bool, true, false}
use Rattle.std.specs.Fmt.{signed_decimal, decimal as decimal_digits}
use Rattle.simd_json_parts.specs.Document.{Document}
use Rattle.simd_json_parts.specs.Nodes.{Item, static_item, decimal_item, string_item, array_item, object_item}
use Rattle.simd_json_parts.specs.Printed.{text, truth_text, quoted}
use Rattle.simd_json_parts.specs.declared.node.StaticNode.{StaticNode}
use Rattle.simd_json_parts.specs.declared.node.StaticNode.TheVariants as fixed
use Rattle.simd_json_print.specs.declared.document.Layout.{Layout}
use Rattle.simd_json_print.specs.declared.document.Layout.TheVariants as layouts

abbrev pub is_pretty : Layout → Bool
is_pretty layouts.Compact = false
is_pretty layouts.Pretty = true

abbrev pub printed : Layout → Document → List ℕ
printed layout d = text (is_pretty layout) d 0

-- Only private clauses cite what follows.

abbrev pub static_text : StaticNode → List ℕ
static_text fixed.Null = codes "null"
static_text (fixed.Bool b) = truth_text b
static_text (fixed.I64 z) = signed_decimal z
static_text (fixed.U64 n) = decimal_digits n
static_text (fixed.I128 z) = signed_decimal z
static_text (fixed.U128 n) = decimal_digits n

-- of a scalar, or of a container with nothing in it
abbrev pub leaf_text : Item → List ℕ
leaf_text (static_item s) = static_text s
leaf_text (decimal_item literal) = literal
leaf_text (string_item t) = quoted t
leaf_text (array_item len count) = codes "[]"
leaf_text (object_item len count) = codes "{}"
