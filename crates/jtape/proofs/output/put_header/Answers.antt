use Rattle.std.proofs.Common.{ap, sym, append_assoc, ◌∙◌, ◌≡◌, ◌++◌, ◌∷◌, [], codes}
use Rattle.std.specs.Fmt.{decimal}
use Rattle.simd_json_parts.specs.Bytes.{line_feed}
use Rattle.simd_json_print.proofs.Texts.{adds-is, adds-then}
use Rattle.jtape.specs.Lines.{header_text}
use Rattle.jtape.proofs.output.put_header.Goals as goal

pub returns : goal.returns
returns g c =
    let kind = c.args.kind.now in
    let len = decimal c.args.len in
    let count = decimal c.args.count in
    let front = kind ++ (len ++ codes " ") in
    let back = count ++ line_feed ∷ [] in
    let whole : front ++ back ≡ header_text kind c.args.len c.args.count ++ line_feed ∷ [] =
    ap (λ us. us ++ back) (sym (append_assoc kind len (codes " ")))
    ∙ sym (append_assoc (kind ++ len ++ codes " ") count (line_feed ∷ [])) in
    adds-is _ _ _ _ _ whole (adds-then _ _ _ _ front back c.put_static.ensures c.put_static-2.ensures)
