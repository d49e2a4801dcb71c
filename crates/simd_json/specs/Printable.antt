-- Nodes of which each can be printed: what makes a document spellable, asked of one node at a time, as a test. Only
-- private clauses cite it.
use Rattle.std.specs.Prelude.{◌≡◌, List, Bool, true, false, All, nat_le}
use Rattle.std.specs.Str.{is_utf8}
use Rattle.simd_json_parts.specs.Derivatives.{matches}
use Rattle.simd_json_parts.specs.Integers.{max_magnitude}
use Rattle.simd_json_parts.specs.Nodes.{Item, static_item, decimal_item, string_item, array_item, object_item, item_of}
use Rattle.simd_json_parts.specs.Numbers.{decimal_literal}
use Rattle.simd_json_parts.specs.declared.node.Node.{Node}
use Rattle.simd_json_parts.specs.declared.node.StaticNode.TheVariants as fixed
use Rattle.simd_json.specs.Documents.{magnitude_below}

-- an integer fits, a decimal is a literal, and a string is UTF-8
abbrev pub is_printable : Item → Bool
is_printable (static_item fixed.Null) = true
is_printable (static_item (fixed.Bool b)) = true
is_printable (static_item (fixed.I64 z)) = nat_le (magnitude_below z) (max_magnitude true)
is_printable (static_item (fixed.U64 n)) = nat_le n (max_magnitude false)
is_printable (static_item (fixed.I128 z)) = nat_le (magnitude_below z) (max_magnitude true)
is_printable (static_item (fixed.U128 n)) = nat_le n (max_magnitude false)
is_printable (decimal_item literal) = matches decimal_literal literal
is_printable (string_item t) = is_utf8 t
is_printable (array_item len count) = true
is_printable (object_item len count) = true

abbrev pub ArePrintable : List Node → Type 0
ArePrintable ns = All (λ n. is_printable (item_of n) ≡ true) ns
