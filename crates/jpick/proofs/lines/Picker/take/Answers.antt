use Rattle.std.proofs.Common.{◌∙◌, ap, refl, subst, sym}
use Rattle.simd_json.specs.Viewed.{doc}
use Rattle.jsonl.proofs.Outcomes.{viewed, whole-some}
use Rattle.jsonl.specs.Records.{outcome_read}
use Rattle.programs.specs.Failures.{name_fault}
use Rattle.jpick.specs.Picked.{with_outcome, with_value}
use Rattle.jpick.specs.Putting.{Shows, Stops, TakesRecord}
use Rattle.jpick.proofs.Shown.{handed-on, shows-value, silent-err, stops-value}
use Rattle.jpick.proofs.lines.Picker.take.Goals as goal

pub as_value-requires : goal.as_value-requires
as_value-requires g c = whole-some c.args.self.now.records.depth c.args.read _ c.in-Value.is c.requires.whole

pub returns-in-Blank : goal.returns-in-Blank
returns-in-Blank g c = record {
  taken = λ start named w file r shown.
      let old = c.args.self.now in (
        c.requires.rejections,
        subst (λ o. Shows g.T.Target.state start old c.args.rows.now named (g.E.Write.contents c.args.err.now.inner) w file
            (with_outcome w file r old.records.text o)) (sym (ap outcome_read c.in-Blank.is)) shown,
      );
  silent = c.requires.rejections;
  same_target = refl;
}

pub returns-in_err-pick-in-Value : goal.returns-in_err-pick-in-Value
returns-in_err-pick-in-Value g c = record {
  taken = λ start named w file r shown.
      let old = c.args.self.now in
      let sound = c.requires.rejections in
      let is = viewed old.records.depth c.args.read _ (doc c.as_value.result) c.in-Value.is c.as_value.ensures in
      handed-on c.from_residual.result _ _ _ _ c.from_residual.ensures.1 (λ e none. none ∙ ap name_fault (sym sound))
      (subst (λ o. Stops g.T.Target.state start c.pick.new.self c.pick.new.rows named (g.E.Write.contents c.args.err.now.inner)
      c.args.err.now.failed (with_outcome w file r old.records.text o)) (sym is)
      (stops-value g.T.Target.state start w file old c.pick.new.self c.args.rows.now c.pick.new.rows r c.in_err-pick-in-Value.ensures.same
      named _ _ (doc c.as_value.result) sound shown c.in_err-pick-in-Value.ensures.rows));
  silent = silent-err c.from_residual.result _ _ c.from_residual.ensures.1;
  same_target = c.in_err-pick-in-Value.ensures.rows.1.same_target;
}

pub returns-in_ok-pick-in-Value : goal.returns-in_ok-pick-in-Value
returns-in_ok-pick-in-Value g c = record {
  taken = λ start named w file r shown.
      let old = c.args.self.now in
      let is = viewed old.records.depth c.args.read _ (doc c.as_value.result) c.in-Value.is c.as_value.ensures in
      let end = g.E.Write.contents c.args.err.now.inner in (
        c.requires.rejections,
        subst (λ o. Shows {A = g.row.A.Denot} g.T.Target.state start (record c.pick.new.self { records = c.keep.new.self }) c.pick.new.rows
            named end w file (with_outcome w file r old.records.text o)) (sym is)
            (subst (λ n. Shows {A = g.row.A.Denot} g.T.Target.state start (record c.pick.new.self { records = n }) c.pick.new.rows
            named end w file (with_value w r (doc c.as_value.result))) (sym c.keep.ensures)
            (shows-value g.T.Target.state start w file old c.pick.new.self c.args.rows.now c.pick.new.rows r
            c.in_ok-pick-in-Value.ensures.same named end (doc c.as_value.result) c.requires.sound shown
            c.in_ok-pick-in-Value.ensures.rows)),
      );
  silent = c.requires.rejections;
  same_target = c.in_ok-pick-in-Value.ensures.rows.same_target;
}

pub returns-in-Rejected : goal.returns-in-Rejected
returns-in-Rejected g c = record {
  taken =
      subst (λ o. TakesRecord g.T.Target.state g.E.Write.contents c.args.self.now c.reject.new.self c.args.rows.now c.reject.new.rows
      c.args.err.now c.reject.new.err o c.reject.result) (sym (ap outcome_read c.in-Rejected.is)) c.reject.ensures.taken;
  silent = c.reject.ensures.silent;
  same_target = c.reject.ensures.same_target;
}
