use Rattle.std.proofs.Common.{rules, [], None}
use Rattle.simd_json_print.specs.Texts.{TargetState}
use Rattle.simd_json_print.proofs.Texts.{ended-written, ended-begun}
use Rattle.simd_json_serde.proofs.writing.write_all.Goals as goal

pub returns-clause-written : goal.returns-clause-written
returns-clause-written g c =
    let start : TargetState = record { held = g.W.Write.contents c.args.writer.now; failed = None } in
    let ends = c.finish.ensures start _ (c.put.ensures.given start [] c.new-out.ensures.empty) in
    let all = ended-written c.finish.result start _ _ ends in search rules

pub returns-clause-begun : goal.returns-clause-begun
returns-clause-begun g c =
    let start : TargetState = record { held = g.W.Write.contents c.args.writer.now; failed = None } in
    let ends = c.finish.ensures start _ (c.put.ensures.given start [] c.new-out.ensures.empty) in
    let all = ended-begun c.finish.result start _ _ ends in search rules
