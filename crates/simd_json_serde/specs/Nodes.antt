-- What nodes say, wherever they are read from.
use Rattle.std.specs.Prelude.{ℕ, List, map, Option, None, option_and_then, slice_get}
use Rattle.simd_json_parts.specs.Nodes.{Item, item_of}
use Rattle.simd_json_serde.specs.KeptNodes.{item_in, string_start}
use Rattle.simd_json_serde.specs.declared.nodes.Nodes.{Nodes}
use Rattle.simd_json_serde.specs.declared.nodes.Nodes.TheVariants.{Listed, Placed}

abbrev pub items_of : Nodes → List Item
items_of (Listed nodes) = map item_of nodes.now
items_of (Placed p) = map (item_in p.input.now) p.nodes.now

-- where the string of the node with an index begins in the input, if it lies there
abbrev pub start_of : Nodes → ℕ → Option ℕ
start_of (Listed nodes) at = None
start_of (Placed p) at = option_and_then string_start (slice_get p.nodes.now at)
