use Rattle.std.proofs.Common.{◌≡◌, ◌∙◌, ◌++◌, [], ap, cond, eqb-true, refl, subst, sym, ℕ, Bool, true, false, ◌==◌}
use Rattle.std.specs.Io.KnownBytes.{Appends}
use Rattle.std.specs.Prelude.{IfOk, codes}
use Rattle.simd_json_print.proofs.Texts.{appends-none}
use Rattle.programs.proofs.Calls.{mapped, weaker}
use Rattle.programs.specs.Failures.{Begins}
use Rattle.log_report.specs.Report.{notice, notice_of, notice_words}
use Rattle.log_report.specs.Runs.{counts_of}
use Rattle.log_report.specs.declared.rows.Wanted.{Wanted}
use Rattle.log_report.proofs.lines.Lines.note.Goals as goal

noted-step : (w : Wanted) (n : ℕ) (b : Bool) → (n == 0) ≡ b → (n ≡ 0 → ⊥) → codes "log_report: " ++ notice_words w n ≡ notice_of w n
noted-step w n true is some = absurd (some (eqb-true n 0 is))
noted-step w n false is some = sym (ap (λ b. cond b [] (codes "log_report: " ++ notice_words w n)) is)

noted : (w : Wanted) (n : ℕ) → (n ≡ 0 → ⊥) → codes "log_report: " ++ notice_words w n ≡ notice_of w n
noted w n some = noted-step w n (n == 0) refl some

pub returns-then-count-eq0 : goal.returns-then-count-eq0
returns-then-count-eq0 g c = λ sound.
    let w = c.args.self.now.wanted.now in
    let start = g.E.Write.contents c.args.err.now.inner in (
      sound,
      subst (Appends start start) (ap (notice_of w) (sym c.if-count-eq0.true ∙ c.others-count.ensures)) (appends-none start),
    )

pub returns : goal.returns
returns g c = λ sound.
    let old = c.args.self.now in
    let w = old.wanted.now in
    let start = g.E.Write.contents c.args.err.now.inner in
    let end = g.E.Write.contents c.put_name.new.rejections.inner in
    let count = c.others-count.result in
    let words = c.as_slice.ensures.value
    ∙ subst (λ r. IfOk r (λ words. words.items ≡ notice_words w count))
    (mapped c.notice.result c.map_err.result _ _ c.map_err.ensures.cases c.in_ok-words.was) c.notice.ensures in
    let line : codes "log_report: " ++ c.as_slice.result.now ≡ notice w (counts_of old) =
    ap (λ us. codes "log_report: " ++ us) words ∙ noted w count c.if-count-eq0.false ∙ ap (notice_of w) c.others-count.ensures in
    weaker c.put_name.result c.put_name.new.rejections.failed _ _ _ _
    (λ all. subst (Appends start end) line all)
    (λ begun. subst (Begins start end) line begun) (c.put_name.ensures sound)
