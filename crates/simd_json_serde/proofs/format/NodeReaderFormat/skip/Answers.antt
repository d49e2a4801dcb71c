use Rattle.std.proofs.Common.{arith}
use Rattle.std.proofs.lemmas.Grind.{common_steps}
use Rattle.simd_json_parts.specs.Nodes.{item_of}
use Rattle.simd_json_serde.specs.Nodes.{items_of}
use Rattle.simd_json_serde.proofs.Values.{stands_beneath}
use Rattle.simd_json_serde.proofs.format.NodeReaderFormat.skip.Goals as goal

pub returns-clause-value : goal.returns-clause-value
returns-clause-value c d h =
    let taken = c.in_ok-node.ensures.taken in
    let whole = stands_beneath (items_of c.args.self.now.nodes) c.args.self.now.at d (item_of c.in_ok-node.node) h.0 taken.1 h.1 in
    grind (arith, common_steps)
