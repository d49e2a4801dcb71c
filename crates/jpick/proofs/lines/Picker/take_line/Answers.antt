use Rattle.std.proofs.Common.{◌≡◌, ◌∙◌, ap, inl, inr, refl, rules, subst, sym}
use Rattle.jsonl.specs.Records.{IsWhole, outcome_read}
use Rattle.programs.specs.Failures.{name_fault}
use Rattle.jpick.specs.Picked.{next, with_line, with_outcome}
use Rattle.jpick.specs.Putting.{Shows}
use Rattle.jpick.proofs.Shown.{handed-on, line-read, shows-next, silent-err, stops-shown, weaker}
use Rattle.jpick.proofs.lines.Picker.take_line.Goals as goal

pub take-requires : goal.take-requires
take-requires g c =
    let whole = subst (λ n. IsWhole n.depth c.in_ok-read.read) (sym c.in_ok-read.ensures.same) c.in_ok-read.ensures.taken.1 in
    (search rules, (whole, (c.requires.sound, c.requires.rejections)))

pub returns-in_err-read : goal.returns-in_err-read
returns-in_err-read g c = record {
  taken = λ start named w file r shown.
      let sound = c.requires.rejections in
      handed-on c.from_residual.result _ _ _ _ c.from_residual.ensures.1 (λ e none. none ∙ ap name_fault (sym sound))
      (r, inl refl, stops-shown g.T.Target.state start w file c.args.self.now _ c.args.rows.now named _ _ r refl sound shown);
  silent = silent-err c.from_residual.result _ _ c.from_residual.ensures.1;
  same_target = refl;
}

pub returns : goal.returns
returns g c = record {
  taken = λ start named w file r shown.
      let old = c.args.self.now in
      let line = c.args.line.now in
      let read = c.in_ok-read.ensures in
      let is : with_outcome w file (next r) c.next.new.self.text (outcome_read c.in_ok-read.read) ≡ with_line w file r line =
      line-read w file r line _ old.records.longest old.records.depth _ (ap (λ n. n.text) read.same) read.taken.0
      shown.knows.longest shown.knows.depth (sym shown.knows.is_over ∙ c.requires.before) in
      weaker c.take.result c.take.new.err.failed _ _ _ _
      (λ all. subst (Shows g.T.Target.state start c.take.new.self c.take.new.rows named (g.E.Write.contents c.take.new.err.inner)
      w file) is all)
      (λ stops. (_, inr is, stops))
      (c.take.ensures.taken start named w file (next r)
      (shows-next g.T.Target.state start w file old c.args.rows.now c.next.new.self line named _ r read.same shown));
  silent = c.take.ensures.silent;
  same_target = c.take.ensures.same_target;
}
