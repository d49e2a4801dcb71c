use Rattle.std.proofs.Common.{rules, []}
use Rattle.simd_json_print.proofs.Lines.{quoted-whole}
use Rattle.simd_json_print.proofs.Texts.{adds-is}
use Rattle.simd_json_print.proofs.document.print_quoted.Goals as goal

pub returns : goal.returns
returns g c =
    let start = g.T.Target.state c.args.target.now in
    let put = adds-is _ _ _ _ _ (quoted-whole c.args.string.now) c.put_string.ensures in
    let ends = c.finish.ensures start _ (put.given start [] c.new-out.ensures.empty) in
    search rules
