use Rattle.std.proofs.Common.{◌≡◌, ◌∙◌, refl, sym, rules, ap, [], ◌++◌}
use Rattle.simd_json_print.proofs.Texts.{adds-failed, adds-taken, adds-then, none-then}
use Rattle.simd_json_print.proofs.text.Text.put_past.Goals as goal

pub returns-in-Err : goal.returns-in-Err
returns-in-Err g c =
    let none = none-then c.flush.new.self.fault (search rules) c.flush.ensures.emptied in
    adds-then g.T.Target.state _ c.flush.new.self _ [] c.args.bytes.now c.flush.ensures.sent
    (adds-failed g.T.Target.state c.flush.new.self _ c.args.bytes.now c.args.bytes.now refl (search rules) refl
    (ap (λ us. us ++ c.args.bytes.now) (sym none)) c.in-Err.ensures)

pub returns-in_default : goal.returns-in_default
returns-in_default g c =
    let none = none-then c.flush.new.self.fault (search rules) c.flush.ensures.emptied in
    let kept : c.collect.new.self ≡ c.flush.new.self.collected = search rules in
    adds-then g.T.Target.state _ c.flush.new.self _ [] c.args.bytes.now c.flush.ensures.sent
    (adds-taken g.T.Target.state c.flush.new.self _ c.args.bytes.now c.args.bytes.now refl (search rules) (search rules)
    (ap (λ us. us ++ c.args.bytes.now) (sym none)) (kept ∙ none) c.in_default.ensures.0 c.in_default.ensures.1)
