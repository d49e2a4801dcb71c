use Rattle.std.proofs.Common.{◌∙◌, ap, sym, append_assoc, ◌++◌, ◌∷◌, [], codes}
use Rattle.simd_json_parts.specs.Bytes.{line_feed}
use Rattle.simd_json_parts.specs.Nodes.{item_of}
use Rattle.simd_json_print.proofs.Texts.{adds-is}
use Rattle.jtape.specs.Lines.{node_line}
use Rattle.jtape.proofs.output.put_other.Goals as goal

pub returns-in-Decimal : goal.returns-in-Decimal
returns-in-Decimal g c =
    let literal = c.in-Decimal.literal.now in
    adds-is _ _ _ _ _ (ap (λ bytes. codes "Decimal " ++ (bytes ++ line_feed ∷ [])) c.as_bytes.ensures.value
    ∙ sym (append_assoc (codes "Decimal ") literal (line_feed ∷ []))
    ∙ ap (λ node. node_line (item_of node)) (sym c.in-Decimal.is))
    c.put_between.ensures
