use Rattle.std.proofs.Common.{refl, sym, append-nil, rules, ◌∙◌, []}
use Rattle.simd_json_print.proofs.Texts.{adds-failed}
use Rattle.simd_json_print.proofs.text.Text.flush.Goals as goal

pub returns-in-Err-clause-sent : goal.returns-in-Err-clause-sent
returns-in-Err-clause-sent g c =
    adds-failed g.T.Target.state c.args.self.now _ [] c.as_slice.result.now refl (search rules) refl
    (c.as_slice.ensures ∙ sym (append-nil _)) c.in-Err.ensures
