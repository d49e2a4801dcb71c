use Rattle.std.proofs.Common.{flat_map, take}
use Rattle.simd_json_parts.specs.Nodes.{item_of}
use Rattle.simd_json_print.specs.Texts.{Adds}
use Rattle.jtape.specs.Lines.{node_line}
use Rattle.jtape.proofs.output.put_lines.Given as goal

abbrev pub invariant-loop-node : goal.invariant-loop-node
invariant-loop-node g l = Adds g.T.Target.state l.fn.text l.text (flat_map (λ node. node_line (item_of node)) (take l.node-index l.nodes))
