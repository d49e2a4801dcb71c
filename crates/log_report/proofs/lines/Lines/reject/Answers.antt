use Rattle.std.proofs.Common.{◌≡◌, ◌∙◌, ◌++◌, ap, subst, sym}
use Rattle.std.specs.Io.KnownBytes.{Appends}
use Rattle.std.specs.Prelude.{IfOk}
use Rattle.programs.proofs.Begins.{begins-all}
use Rattle.programs.proofs.Calls.{handed-on, mapped}
use Rattle.programs.specs.Failures.{Begins, name_fault}
use Rattle.programs.specs.Rejections.{rejection_words}
use Rattle.log_report.specs.Runs.{counts_of}
use Rattle.log_report.specs.Table.{counted}
use Rattle.log_report.proofs.lines.Lines.reject.Goals as goal

pub returns-in_err-put_name : goal.returns-in_err-put_name
returns-in_err-put_name g c = λ sound.
    let old = c.args.self.now in
    let start = g.E.Write.contents c.args.err.now.inner in
    let end = g.E.Write.contents c.put_name.new.rejections.inner in
    let why = rejection_words old.wanted.now.longest old.records.number old.records.text c.args.error in
    let line : old.file.now ++ c.as_slice.result.now ≡ old.file.now ++ why =
    ap (λ us. old.file.now ++ us) (c.as_slice.ensures.value ∙ subst (λ r. IfOk r (λ words. words.items ≡ why))
    (mapped c.naming_words.result c.map_err.result _ _ c.map_err.ensures.cases c.in_ok-words.was) c.naming_words.ensures) in
    let failed = c.in_err-put_name.ensures sound in
    handed-on c.from_residual-in_err-put_name.result _ _ _ _ c.from_residual-in_err-put_name.ensures.1 (λ e is. is ∙ failed.0)
    (subst (Begins start end) line failed.1)

pub returns-in_err-add : goal.returns-in_err-add
returns-in_err-add g c = λ sound.
    let old = c.args.self.now in
    let start = g.E.Write.contents c.args.err.now.inner in
    let end = g.E.Write.contents c.put_name.new.rejections.inner in
    let why = rejection_words old.wanted.now.longest old.records.number old.records.text c.args.error in
    let line : old.file.now ++ c.as_slice.result.now ≡ old.file.now ++ why =
    ap (λ us. old.file.now ++ us) (c.as_slice.ensures.value ∙ subst (λ r. IfOk r (λ words. words.items ≡ why))
    (mapped c.naming_words.result c.map_err.result _ _ c.map_err.ensures.cases c.in_ok-words.was) c.naming_words.ensures) in
    let all = c.in_ok-put_name.ensures sound in
    handed-on c.from_residual-in_err-add.result _ _ _ _ c.from_residual-in_err-add.ensures.1
    (λ e none. none ∙ ap name_fault (sym all.0)) (begins-all start end _ (subst (Appends start end) line all.1))

pub returns : goal.returns
returns g c = λ sound.
    let old = c.args.self.now in
    let start = g.E.Write.contents c.args.err.now.inner in
    let end = g.E.Write.contents c.put_name.new.rejections.inner in
    let why = rejection_words old.wanted.now.longest old.records.number old.records.text c.args.error in
    let line : old.file.now ++ c.as_slice.result.now ≡ old.file.now ++ why =
    ap (λ us. old.file.now ++ us) (c.as_slice.ensures.value ∙ subst (λ r. IfOk r (λ words. words.items ≡ why))
    (mapped c.naming_words.result c.map_err.result _ _ c.map_err.ensures.cases c.in_ok-words.was) c.naming_words.ensures) in
    let all = c.in_ok-put_name.ensures sound in
    let added = c.in_ok-add.ensures in (
      all.0,
      record {
        counts = added.counts ∙ ap (λ text. counted old.wanted.now.is_tsv old.wanted.now.values 1 text (counts_of old)) c.rejected.ensures;
        same = added.same;
        named = subst (Appends start end) line all.1;
      },
    )
