use Rattle.std.proofs.Common.{ap, refl, rules, [], Some}
use Rattle.simd_json_print.specs.Texts.{TargetState}
use Rattle.simd_json_print.specs.declared.document.Layout.TheVariants as layouts
use Rattle.simd_json_print.proofs.Texts.{adds-is, ended-sound, ended-failed}
use Rattle.jtape.specs.Lines.{number_lines}
use Rattle.jtape.specs.Output.{mode_text}
use Rattle.jtape.proofs.Forms.{IsPut, put-into, put-nothing, put-tape, put-positions, put-text}
use Rattle.jtape.proofs.output.print.Goals as goal
use Rattle.jtape.proofs.output.print.Goals.{in-Tape, in-Positions, in-Compact, in-Pretty, in-Lines}

pub returns-in-Ok : goal.returns-in-Ok
returns-in-Ok g c =
    let start : TargetState = record { held = g.W.Write.contents c.args.writer.now.inner; failed = Some c.args.writer.now.failed } in
    let indexes = c.args.buffers.now.index.listed in
    let put : IsPut _ c.new-text.result c.match-mode.text c.args.mode c.args.nodes.now indexes = elim c.match-mode.branch [
      | in-Tape w ↦ put-into w.text-is w.in-Tape.is (put-tape _ _ _ _ _ w.put_lines.ensures)
      | in-Positions w ↦
          put-into w.text-is w.in-Positions.is
          (put-positions _ _ _ _ _ (adds-is _ _ _ _ _ (ap number_lines w.structural_indexes.ensures) w.put_positions.ensures))
      | in-Compact w ↦
          put-into w.text-is w.in-Compact.is
          (put-text _ _ _ _ _ _ layouts.Compact _ (λ input d. refl) w.put.ensures w.put-in-Compact.ensures)
      | in-Pretty w ↦
          put-into w.text-is w.in-Pretty.is
          (put-text _ _ _ _ _ _ layouts.Pretty _ (λ input d. refl) w.put-in-Pretty.ensures w.put-in-Pretty-2.ensures)
      | in-Lines w ↦ put-into w.text-is w.in-Lines.is (put-nothing _ _ _ _)
    ] in
    record {
      all = λ d input listed found.
          let bytes = mode_text c.args.mode input d in
          let ends = c.finish.ensures start bytes ((put.given d input listed found).given start [] c.new-text.ensures.empty) in
          let all = ended-sound c.finish.result _ _ _ _ bytes ends c.requires (search rules) in
          search rules;
      begun = λ d input listed found. tt;
      sound =
          let ends = c.finish.ensures start put.kept.0 (put.kept.1.given start [] c.new-text.ensures.empty) in
          let sound = ended-sound c.finish.result _ _ _ _ put.kept.0 ends c.requires (search rules) in
          search rules;
      fault = tt;
    }

pub returns-in-Err : goal.returns-in-Err
returns-in-Err g c =
    let start : TargetState = record { held = g.W.Write.contents c.args.writer.now.inner; failed = Some c.args.writer.now.failed } in
    let indexes = c.args.buffers.now.index.listed in
    let put : IsPut _ c.new-text.result c.match-mode.text c.args.mode c.args.nodes.now indexes = elim c.match-mode.branch [
      | in-Tape w ↦ put-into w.text-is w.in-Tape.is (put-tape _ _ _ _ _ w.put_lines.ensures)
      | in-Positions w ↦
          put-into w.text-is w.in-Positions.is
          (put-positions _ _ _ _ _ (adds-is _ _ _ _ _ (ap number_lines w.structural_indexes.ensures) w.put_positions.ensures))
      | in-Compact w ↦
          put-into w.text-is w.in-Compact.is
          (put-text _ _ _ _ _ _ layouts.Compact _ (λ input d. refl) w.put.ensures w.put-in-Compact.ensures)
      | in-Pretty w ↦
          put-into w.text-is w.in-Pretty.is
          (put-text _ _ _ _ _ _ layouts.Pretty _ (λ input d. refl) w.put-in-Pretty.ensures w.put-in-Pretty-2.ensures)
      | in-Lines w ↦ put-into w.text-is w.in-Lines.is (put-nothing _ _ _ _)
    ] in
    record {
      all = λ d input listed found. tt;
      begun = λ d input listed found.
          let bytes = mode_text c.args.mode input d in
          let ends = c.finish.ensures start bytes ((put.given d input listed found).given start [] c.new-text.ensures.empty) in
          let begun = ended-failed c.finish.result _ _ _ _ bytes ends (search rules) in
          search rules;
      sound = tt;
      fault =
          let ends = c.finish.ensures start put.kept.0 (put.kept.1.given start [] c.new-text.ensures.empty) in
          let failed = ended-failed c.finish.result _ _ _ _ put.kept.0 ends (search rules) in
          search rules;
    }
