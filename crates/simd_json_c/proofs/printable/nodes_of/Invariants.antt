use Rattle.std.proofs.Common.{◌≡◌, List, All, length, map, take}
use Rattle.simd_json_parts.specs.Nodes.{Item, item_of}
use Rattle.simd_json_c.specs.Placed.{AreFirst}
use Rattle.simd_json_c.specs.Printable.{IsPrintable}
use Rattle.simd_json_c.proofs.printable.nodes_of.Given as goal

-- the nodes so far are those of the first items
abbrev pub invariant-loop-at : goal.invariant-loop-at
invariant-loop-at l =
    (items : List Item) → AreFirst l.text items l.cells → length items ≡ length l.cells → All IsPrintable items
    → map item_of l.nodes.items ≡ take l.at items
