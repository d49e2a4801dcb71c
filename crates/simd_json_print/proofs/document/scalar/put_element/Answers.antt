use Rattle.std.proofs.Common.{◌∙◌, ◌∷◌, ◌++◌, [], cond, ap, sym, append-nil, not, nat_eq}
use Rattle.simd_json_parts.specs.Bytes.{left_bracket, comma}
use Rattle.simd_json_parts.specs.Nodes.{item_of}
use Rattle.simd_json_parts.specs.Printed.{quoted, line}
use Rattle.simd_json_print.specs.Layout.{leaf_text}
use Rattle.simd_json_print.proofs.Lines.{adds-a-line, adds-front, adds-string}
use Rattle.simd_json_print.proofs.Texts.{adds-is, adds-then}
use Rattle.simd_json_print.proofs.document.scalar.put_element.Goals as goal

pub returns-then-this-ne0 : goal.returns-then-this-ne0
returns-then-this-ne0 g c =
    let front = adds-front _ _ _ _ c.front_of-front.result.now c.front_of-front.ensures c.put.ensures in
    let line_of = adds-a-line _ _ c.args.depth _ _ c.if-this-ne0.true c.put_new_line.ensures in
    adds-then _ _ _ _ _ _ front (adds-then _ _ _ _ (line (not (nat_eq g.row.PRETTY 0)) c.args.depth) _ line_of c.put_leaf.ensures)

pub returns-in-String : goal.returns-in-String
returns-in-String g c =
    let before = cond c.args.is_first left_bracket comma in
    let string = c.in-String.string.now in
    adds-is _ _ _ _ _ (ap (λ us. before ∷ us) (append-nil (quoted string)) ∙ ap (λ x. before ∷ leaf_text (item_of x)) (sym c.in-String.is)
    ∙ ap (λ n. before ∷ (line (not (nat_eq n 0)) c.args.depth ++ leaf_text (item_of c.args.node.now))) (sym c.if-this-ne0.false))
    (adds-string _ _ _ _ c.front_of-front.result.now string [] c.front_of-front.ensures c.put_string.ensures)
