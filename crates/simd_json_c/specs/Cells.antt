-- A tape as a program in C gets it: nodes of fixed size, and the input, in which their texts are.
use Rattle.std.specs.Prelude.{◌%◌, ◌^◌, ℕ, length, true, false}
use Rattle.std.specs.Int.{cast_unsigned, w64}
use Rattle.simd_json_parts.specs.Nodes.{Item, static_item, decimal_item, string_item, array_item, object_item}
use Rattle.simd_json_parts.specs.declared.node.StaticNode.{StaticNode}
use Rattle.simd_json_parts.specs.declared.node.StaticNode.TheVariants as fixed
use Rattle.simd_json_stages.specs.Placed.{Placed}
use Rattle.simd_json_c.specs.declared.cells.Cell.{Cell}

-- so many bytes or members, and where the bytes begin, how many nodes lie beneath, or the number
abbrev pub cell_with : ℕ → ℕ → ℕ → Cell
cell_with kind len value = record { kind = kind; len = len; value = value }

-- with a text of so many bytes, if it has one, from an index of the input on
abbrev pub static_cell : ℕ → ℕ → StaticNode → Cell
static_cell at len fixed.Null = cell_with 0 0 0
static_cell at len (fixed.Bool false) = cell_with 1 0 0
static_cell at len (fixed.Bool true) = cell_with 1 0 1
static_cell at len (fixed.I64 z) = cell_with 2 0 (cast_unsigned w64 z)
static_cell at len (fixed.U64 n) = cell_with 3 0 n
static_cell at len (fixed.I128 z) = cell_with 4 len at
static_cell at len (fixed.U128 n) = cell_with 5 len at

abbrev pub item_cell : ℕ → ℕ → Item → Cell
item_cell at len (static_item s) = static_cell at len s
item_cell at len (decimal_item literal) = cell_with 6 len at
item_cell at len (string_item t) = cell_with 7 len at
item_cell at len (array_item members count) = cell_with 8 members count
item_cell at len (object_item members count) = cell_with 9 members count

abbrev pub cell_at : Placed → Cell
cell_at p = item_cell p.at (length p.text) p.item

-- a node as it is written, with the lower 32 bits of its length: of a document's node these are all
abbrev pub cut : Cell → Cell
cut n = record n { len = n.len % 2 ^ 32 }

abbrev pub cut_of : Placed → Cell
cut_of p = cut (cell_at p)
