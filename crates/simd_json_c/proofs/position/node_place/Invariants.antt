use Rattle.std.proofs.Common.{◌≡◌, drop, slice_get}
use Rattle.simd_json_c.specs.Located.{node_places}
use Rattle.simd_json_c.proofs.position.node_place.Given as goal

-- of the indexes that are left, the place is that of the node with as many before it as are left
abbrev pub invariant-loop-passed : goal.invariant-loop-passed
invariant-loop-passed l =
    slice_get (node_places l.input l.indexes) l.node ≡ slice_get (node_places l.input (drop l.passed l.indexes)) l.left
