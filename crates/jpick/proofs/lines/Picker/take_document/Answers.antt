use Rattle.std.proofs.Common.{◌≡◌, ◌∙◌, ap, inl, inr, refl, rules, subst, sym}
use Rattle.jsonl.specs.Records.{IsWhole, outcome_of_text, outcome_read}
use Rattle.programs.specs.Failures.{name_fault}
use Rattle.jpick.specs.Picked.{next, no_line, picked_document, with_outcome}
use Rattle.jpick.specs.Putting.{Shows}
use Rattle.jpick.proofs.Shown.{handed-on, shows-next, stops-shown, weaker}
use Rattle.jpick.proofs.lines.Picker.take_document.Goals as goal

pub take-requires : goal.take-requires
take-requires g c =
    let whole = subst (λ n. IsWhole n.depth c.in_ok-read.read) (sym c.in_ok-read.ensures.same) c.in_ok-read.ensures.taken.1 in
    (search rules, (whole, (c.requires.sound, c.requires.rejections)))

pub returns-in_err-read-clause-taken : goal.returns-in_err-read-clause-taken
returns-in_err-read-clause-taken g c start named w file shown =
    let sound = c.requires.rejections in
    handed-on c.from_residual.result _ _ _ _ c.from_residual.ensures.1 (λ e none. none ∙ ap name_fault (sym sound))
    (no_line, inl refl, stops-shown g.T.Target.state start w file c.args.self.now _ c.args.rows.now named _ _ no_line refl sound shown)

pub returns-clause-taken : goal.returns-clause-taken
returns-clause-taken g c start named w file shown =
    let old = c.args.self.now in
    let text = c.args.input.now in
    let read = c.in_ok-read.ensures in
    let is : with_outcome w file (next no_line) c.next_document.new.self.text (outcome_read c.in_ok-read.read)
    ≡ picked_document w file text =
    ap (λ u. with_outcome w file (next no_line) u (outcome_read c.in_ok-read.read)) (ap (λ n. n.text) read.same)
    ∙ ap (with_outcome w file (next no_line) text) (read.taken.0 ∙ ap (λ n. outcome_of_text n text) shown.knows.depth) in
    weaker c.take.result c.take.new.err.failed _ _ _ _
    (λ all. subst (Shows g.T.Target.state start c.take.new.self c.take.new.rows named (g.E.Write.contents c.take.new.err.inner)
    w file) is all)
    (λ stops. (_, inr is, stops))
    (c.take.ensures.taken start named w file (next no_line)
    (shows-next g.T.Target.state start w file old c.args.rows.now c.next_document.new.self text named _ no_line read.same shown))

pub returns-clause-same_target : goal.returns-clause-same_target
returns-clause-same_target g c = c.take.ensures.same_target
