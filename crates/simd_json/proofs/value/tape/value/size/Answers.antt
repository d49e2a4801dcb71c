use Rattle.std.proofs.Common.{◌≡◌, ◌<◌, ◌≤◌, ◌+◌, List, get_or, length, arith}
use Rattle.simd_json_parts.specs.Document.{Document}
use Rattle.simd_json_parts.specs.Nodes.{item_of}
use Rattle.simd_json_parts.specs.declared.node.Node.{Node}
use Rattle.simd_json_parts.specs.Headers.{count_of}
use Rattle.simd_json_parts.proofs.Documents.Fronts.{positive, sized, within}
use Rattle.simd_json.specs.Tapes.{StandsFor}
use Rattle.simd_json.proofs.Views.Listed.{sized-scalar}
use Rattle.simd_json.proofs.value.tape.value.size.Goals as goal

-- nodes that begin with a document are some
some-node : (ns : List Node) → (d : Document) × StandsFor ns d → 0 < length ns
some-node ns (d, (rest, is)) = omega (arith, positive d, within ns d rest is)

-- and no fewer than the first says
as-many : (ns : List Node) (default x : Node) → (d : Document) × StandsFor ns d → get_or ns 0 default ≡ x
    → count_of (item_of x) + 1 ≤ length ns
as-many ns default x (d, (rest, is)) at = omega (arith, sized ns default x d rest is at, within ns d rest is)

pub bounds-0 : goal.bounds-0
bounds-0 c = some-node c.args.nodes.now c.requires

pub bounds-0-2 : goal.bounds-0-2
bounds-0-2 c = some-node c.args.nodes.now c.requires

pub overflow_add-result : goal.overflow_add-result
overflow_add-result c =
    let few : c.in-Array.count + 1 ≤ length c.args.nodes.now = as-many c.args.nodes.now _ _ c.requires c.in-Array.is in
    omega arith

pub overflow_add-result-in-Object : goal.overflow_add-result-in-Object
overflow_add-result-in-Object c =
    let few : c.in-Object.count + 1 ≤ length c.args.nodes.now = as-many c.args.nodes.now _ _ c.requires c.in-Object.is in
    omega arith

pub returns : goal.returns
returns c d rest is = sized-scalar c.args.nodes.now _ d rest is c.in_default.not-Array c.in_default-nodes.not-Object

pub returns-in-Array : goal.returns-in-Array
returns-in-Array c d rest is = sized c.args.nodes.now _ _ d rest is c.in-Array.is

pub returns-in-Object : goal.returns-in-Object
returns-in-Object c d rest is = sized c.args.nodes.now _ _ d rest is c.in-Object.is
