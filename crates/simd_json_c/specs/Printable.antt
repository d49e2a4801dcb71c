-- Nodes in the caller's memory whose value can be printed, and its text.
use Rattle.std.specs.Prelude.{◌≡◌, ◌≤◌, ◌<◌, ◌⊎◌, ℕ, ℤ, List, length, take, drop, Bool, true, FitsSigned, IsUtf8, ⊤}
use Rattle.std.specs.Int.{w64}
use Rattle.std.specs.List.{All}
use Rattle.simd_json_parts.specs.Document.{Document}
use Rattle.simd_json_parts.specs.Integers.{integer_node, max_magnitude}
use Rattle.simd_json_parts.specs.Listing.{listing}
use Rattle.simd_json_parts.specs.Nodes.{Item, static_item, decimal_item, string_item}
use Rattle.simd_json_parts.specs.declared.node.StaticNode.{StaticNode}
use Rattle.simd_json_parts.specs.declared.node.StaticNode.TheVariants as fixed
use Rattle.simd_json_print.specs.Layout.{printed}
use Rattle.simd_json_print.specs.declared.document.Layout.{Layout}
use Rattle.simd_json_stages.specs.Placed.{IsTextOf, is_long}
use Rattle.simd_json_c.specs.Calls.{IsTextPut}
use Rattle.simd_json_c.specs.Placed.{IsValueAt}
use Rattle.simd_json_c.specs.Statuses.{no_value_status, out_of_memory}
use Rattle.simd_json_c.specs.declared.cells.Cell.{Cell}

-- an integer that a document can have
abbrev pub IsInRange : StaticNode → Type 0
IsInRange s = (minus : Bool) × (n : ℕ) × (s ≡ integer_node minus n) × (n ≤ max_magnitude minus)

-- as each node of a parse is: a text is UTF-8, and an integer is in range
abbrev pub IsPrintable : Item → Type 0
IsPrintable (string_item t) = IsUtf8 t
IsPrintable (decimal_item t) = IsUtf8 t
IsPrintable (static_item (fixed.I64 z)) = FitsSigned w64 z
IsPrintable (static_item (fixed.I128 z)) = IsInRange (fixed.I128 z)
IsPrintable (static_item (fixed.U128 n)) = IsInRange (fixed.U128 n)
IsPrintable _ = ⊤

-- a part of a text, from an index on; as UTF-8; as an integer of 128 bits
abbrev pub IsPartAt : List ℕ → ℕ → ℕ → List ℕ → Type 0
IsPartAt text at len part = (len ≡ length part) × (take len (drop at text) ≡ part)

abbrev pub IsStrAt : List ℕ → ℕ → ℕ → List ℕ → Type 0
IsStrAt text at len part = IsPartAt text at len part × IsUtf8 part

abbrev pub IsWideLiteral : List ℕ → StaticNode → Type 0
IsWideLiteral part value = (is_long value ≡ true) × IsTextOf (static_item value) part × IsInRange value

abbrev pub IsWideAt : List ℕ → ℕ → ℕ → StaticNode → Type 0
IsWideAt text at len value = (part : List ℕ) × IsPartAt text at len part × IsWideLiteral part value

-- The text of the value at index `from` is put or has too little room, or an allocation failed; or no node has the index.
abbrev pub IsNodePrinted : List Cell → List ℕ → ℕ → Layout → ℤ → ℕ → ℕ → List ℕ → List ℕ → Type 0
IsNodePrinted cells text from layout status old_needed needed old new =
    ((length cells ≤ from) × (status ≡ no_value_status) × (needed ≡ old_needed) × (new ≡ old))
    ⊎ ((from < length cells)
    × (((status ≡ out_of_memory) × (needed ≡ old_needed) × (new ≡ old))
    ⊎ ((put : List ℕ) × IsTextPut put status needed old new
    × ((d : Document) → IsValueAt cells text from d → All IsPrintable (listing d) → put ≡ printed layout d))))
