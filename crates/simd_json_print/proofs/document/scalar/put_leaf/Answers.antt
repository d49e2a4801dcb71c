use Rattle.std.proofs.Common.{ap, sym, ◌∙◌}
use Rattle.simd_json_parts.specs.Nodes.{item_of}
use Rattle.simd_json_print.specs.Layout.{leaf_text}
use Rattle.simd_json_print.proofs.Lines.{quoted-whole}
use Rattle.simd_json_print.proofs.Texts.{adds-is}
use Rattle.simd_json_print.proofs.document.scalar.put_leaf.Goals as goal

pub returns-in-String : goal.returns-in-String
returns-in-String g c = adds-is _ _ _ _ _
    (quoted-whole c.in-String.string.now ∙ ap (λ x. leaf_text (item_of x)) (sym c.in-String.is)) c.put_string.ensures
