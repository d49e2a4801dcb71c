use Rattle.std.proofs.Common.{rules, [], None}
use Rattle.simd_json_print.specs.Texts.{TargetState}
use Rattle.simd_json_print.proofs.Texts.{ended-written, ended-begun, ended-longer}
use Rattle.simd_json_print.proofs.document.write.Goals as goal

pub returns : goal.returns
returns g c =
    let old : TargetState = record { held = g.W.Write.contents c.args.writer.now; failed = None } in
    let p = c.put.ensures in
    record {
      written = λ d is.
          let ends = c.finish.ensures old _ ((p.given d is).given old [] c.new-out.ensures.empty) in
          let all = ended-written c.finish.result old _ _ ends in
          search rules;
      begun = λ d is.
          let ends = c.finish.ensures old _ ((p.given d is).given old [] c.new-out.ensures.empty) in
          let begun = ended-begun c.finish.result old _ _ ends in
          search rules;
      kept =
          let ends = c.finish.ensures old _ (p.kept.1.given old [] c.new-out.ensures.empty) in
          let longer = ended-longer c.finish.result old _ _ ends in
          search rules;
    }
