use Rattle.std.proofs.Common.{◌∙◌, ap, sym, arith}
use Rattle.std.proofs.lemmas.List.{get_or_default}
use Rattle.simd_json_parts.specs.declared.node.Node.TheVariants.{Static}
use Rattle.simd_json_parts.specs.declared.node.StaticNode.TheVariants.{Null}
use Rattle.simd_json_parts.specs.Nodes.{item_of}
use Rattle.jtape.specs.Lines.{node_line}
use Rattle.simd_json_print.proofs.FlatMaps.{flat_map-map}
use Rattle.simd_json_print.proofs.Texts.{adds-is, adds-none}
use Rattle.jtape.proofs.Given.{adds-more, adds-all, adds-others}
use Rattle.jtape.proofs.output.put_lines.Goals as goal

pub loop-node-init : goal.loop-node-init
loop-node-init g c = adds-none _ _

pub returns-then-has_failed : goal.returns-then-has_failed
returns-then-has_failed g c =
    adds-is _ _ _ _ _ (sym (flat_map-map node_line item_of c.args.nodes.now))
    (adds-others _ (λ node. node_line (item_of node)) c.args.nodes.now c.loop-node.node-index _ _
    (sym c.has_failed.ensures ∙ c.if-has_failed.true) c.loop-node.invariant)

pub loop-node-preserved : goal.loop-node-preserved
loop-node-preserved g c =
    let nodes = c.args.nodes.now in
    let i = c.loop-node.node-index in
    adds-more _ (λ node. node_line (item_of node)) nodes i (Static Null) _ _ _ c.loop-node-test.true c.loop-node.invariant
    (adds-is _ _ _ _ _ (ap (λ node. node_line (item_of node)) (get_or_default nodes i _ (Static Null) c.loop-node-test.true))
    c.put_line.ensures)

pub returns : goal.returns
returns g c =
    adds-is _ _ _ _ _ (sym (flat_map-map node_line item_of c.args.nodes.now))
    (adds-all _ (λ node. node_line (item_of node)) c.args.nodes.now c.loop-node.node-index _ _ (omega arith) c.loop-node.invariant)
