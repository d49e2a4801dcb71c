-- What is compared, as it is found.
use Rattle.std.specs.Prelude.{ℕ, List, false, Option, Some, None, pos}
use denote.Ref.{Bor}
use Rattle.simd_json_parts.specs.Document.{Document, integer}
use Rattle.simd_json.specs.Viewed.{doc}
use Rattle.simd_json_parts.specs.Nodes.{Item, static_item, decimal_item, string_item}
use Rattle.simd_json_parts.specs.declared.node.StaticNode.TheVariants as fixed
use Rattle.simd_json_number.specs.Numbers.{meaning}
use Rattle.simd_json_number.specs.Meanings as meanings
use Rattle.simd_json_path.specs.Comparisons.{Primitive, nothing, truth, number, text}
use Rattle.simd_json_path.specs.Filters.{literal_value}
use Rattle.simd_json_path.specs.declared.operand.Operand.{Operand}
use Rattle.simd_json_path.specs.declared.operand.Operand.TheVariants as operand
use Rattle.simd_json_path.specs.declared.scalar.Scalar.{Scalar}
use Rattle.simd_json_path.specs.declared.scalar.Scalar.TheVariants as scalar

abbrev pub operand_value : Operand → Option Document
operand_value operand.Nothing = None
operand_value (operand.Literal l) = Some (literal_value l)
operand_value (operand.Count n) = Some (integer false n)
operand_value (operand.Node v) = Some (doc v)

abbrev pub string_read : Bor (List ℕ) → List ℕ
string_read t = t.now

abbrev pub scalar_value : Scalar → Primitive
scalar_value scalar.Null = nothing
scalar_value (scalar.Bool b) = truth b
scalar_value (scalar.Number n) = number (meanings.number n)
scalar_value (scalar.String t) = text t.now

-- of a value that begins with such a node
abbrev pub item_primitive : Item → Option Primitive
item_primitive (static_item fixed.Null) = Some nothing
item_primitive (static_item (fixed.Bool b)) = Some (truth b)
item_primitive (static_item (fixed.I64 z)) = Some (number (record { coefficient = z; exponent = pos 0 }))
item_primitive (static_item (fixed.U64 n)) = Some (number (record { coefficient = pos n; exponent = pos 0 }))
item_primitive (static_item (fixed.I128 z)) = Some (number (record { coefficient = z; exponent = pos 0 }))
item_primitive (static_item (fixed.U128 n)) = Some (number (record { coefficient = pos n; exponent = pos 0 }))
item_primitive (decimal_item literal) = Some (number (meaning literal))
item_primitive (string_item t) = Some (text t)
item_primitive _ = None
