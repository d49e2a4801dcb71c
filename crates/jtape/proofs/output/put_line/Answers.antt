use Rattle.std.proofs.Common.{ap, sym, append_assoc, flat_map, ◌++◌, codes}
use Rattle.simd_json_parts.specs.Nodes.{item_of}
use Rattle.simd_json_parts.specs.Printed.{escaped_byte, quoted}
use Rattle.simd_json_print.proofs.Texts.{adds-is}
use Rattle.jtape.specs.Lines.{node_line}
use Rattle.jtape.proofs.output.put_line.Goals as goal

pub returns-in-String : goal.returns-in-String
unfolding quoted
returns-in-String g c =
    let escaped = flat_map escaped_byte c.in-String.string.now in
    adds-is _ _ _ _ _ (ap (λ node. node_line (item_of node)) (sym c.in-String.is))
    (adds-is _ _ _ _ _ (ap (λ us. codes "String \"" ++ us) (sym (append_assoc escaped (codes "\"") (codes "\n")))) c.put_string.ensures)
