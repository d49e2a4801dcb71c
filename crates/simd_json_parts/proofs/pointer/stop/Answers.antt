use Rattle.std.proofs.Common.{◌∙◌, sym, drop}
use Rattle.simd_json_parts.proofs.Pointers.Pointed.{some-left, stop-at, stop-kind}
use Rattle.simd_json_parts.proofs.pointer.stop.Goals as goal

pub returns : goal.returns
returns c d kind nowhere =
    let p = c.args.pointer.now in
    let i = c.args.followed in
    stop-at i (drop i p) d c.lack.result (some-left p i c.requires) (c.lack.ensures d kind nowhere)
    ∙ stop-kind i d c.lack.result c.args.got (sym kind)
