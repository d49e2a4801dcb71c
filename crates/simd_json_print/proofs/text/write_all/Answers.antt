use Rattle.std.proofs.Common.{rules, arith}
use Rattle.simd_json_print.proofs.Texts.{write-failed, write-zero, write-more}
use Rattle.simd_json_print.proofs.text.write_all.Goals as goal

pub returns-in-Err : goal.returns-in-Err
returns-in-Err g c =
    let i = c.loop-left.invariant in
    write-failed c.in-Err.fault _ _ _ i.0 c.loop-left.left.now c.args.bytes.now c.in-Err.ensures (search (rules, arith)) i.1 i.2 i.3

pub returns-in-Ok-eq0 : goal.returns-in-Ok-eq0
returns-in-Ok-eq0 g c =
    let i = c.loop-left.invariant in
    write-zero c.in-Ok-eq0.field-0 _ _ _ i.0 c.loop-left.left.now c.args.bytes.now (search rules) c.in-Ok-eq0.ensures
    (search (rules, arith)) i.1 i.2 i.3

pub loop-left-preserved : goal.loop-left-preserved
loop-left-preserved g c =
    let i = c.loop-left.invariant in
    write-more c.in-Ok.taken _ _ _ i.0 c.loop-left.left.now c.split_at.result.1.now c.args.bytes.now c.in-Ok.ensures
    (search (rules, arith)) c.split_at.ensures.back i.1 i.2 i.3
