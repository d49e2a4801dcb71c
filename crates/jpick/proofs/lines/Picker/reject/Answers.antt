use Rattle.std.proofs.Common.{◌≡◌, ◌∙◌, ◌++◌, [], ap, append-nil, cond, length, refl, rules, subst, sym, List, ℕ}
use Rattle.std.proofs.Math.Seq.{take-length}
use Rattle.std.proofs.lemmas.Bool.{false≢true}
use Rattle.std.specs.Io.KnownBytes.{Appends}
use Rattle.std.specs.Prelude.{IfOk}
use Rattle.simd_json_print.proofs.Texts.{appends-then}
use Rattle.simd_json_print.specs.Texts.{HasGiven}
use Rattle.programs.proofs.Begins.{begins-more, begins-then}
use Rattle.programs.proofs.Calls.{failed-as, mapped}
use Rattle.programs.specs.declared.failure.Failure.TheVariants.{Resources}
use Rattle.programs.specs.Failures.{Begins, name_fault}
use Rattle.jpick.specs.Picked.{naming_words, rejection_line}
use Rattle.jpick.specs.Putting.{Names}
use Rattle.jpick.proofs.Putting.{flushed}
use Rattle.jpick.proofs.Shown.{all-names, handed-on, knows-rejected, lost-names, named-as, names-all, names-begun, silent-ends, silent-err}
use Rattle.jpick.proofs.Shown.{weaker}
use Rattle.jpick.proofs.lines.Picker.reject.Goals as goal

pub returns-then-self : goal.returns-then-self
returns-then-self g c = record {
  taken = λ start named w file r shown.
      let old = c.args.self.now in
      let text = old.records.text in
      let none : [] ≡ rejection_line w file r.number text c.args.error =
      ap (λ q. cond {A = List ℕ} q [] (old.file.now ++ naming_words old.wanted.now old.records.number text c.args.error))
      (sym c.if-self.true) ∙ named-as w file old r c.args.error shown.knows in (
        c.requires.rejections,
        record {
          knows = knows-rejected w file old r c.args.error _ c.begins_document-self.ensures shown.knows;
          rows = shown.rows;
          rejections = subst (Names _ named _) (sym (append-nil r.rejections) ∙ ap (λ us. r.rejections ++ us) none) shown.rejections;
        },
      );
  silent = c.requires.rejections;
  same_target = refl;
}

pub returns-then-has_failed : goal.returns-then-has_failed
returns-then-has_failed g c = record {
  taken = λ start named w file r shown.
      let old = c.args.self.now in (
        c.requires.rejections,
        record {
          knows = knows-rejected w file old r c.args.error _ c.begins_document-self.ensures shown.knows;
          rows = subst (HasGiven _ start c.flush.new.self) (append-nil r.rows) (c.flush.ensures.sent.given start r.rows shown.rows);
          rejections = lost-names _ named _ _ (sym c.has_failed.ensures ∙ c.if-has_failed.true)
              (begins-more named _ r.rejections _ (names-begun _ named _ r.rejections shown.rejections));
        },
      );
  silent = c.requires.rejections;
  same_target = c.flush.ensures.sent.same_target;
}

pub returns-in_err-words : goal.returns-in_err-words
returns-in_err-words g c = record {
  taken = λ start named w file r shown.
      let sound = c.requires.rejections in
      let given = subst (HasGiven _ start c.flush.new.self) (append-nil r.rows) (c.flush.ensures.sent.given start r.rows shown.rows) in
      let failed = failed-as c.naming_words.result c.map_err.result _ (λ e. e ≡ Resources) _ c.map_err.ensures.cases c.in_err-words.was
      (λ e d h. search rules) in
      handed-on c.from_residual.result _ _ _ _ c.from_residual.ensures.1 (λ e is. is ∙ failed.0 ∙ ap name_fault (sym sound)) (record {
        all_taken = refl;
        count = length r.rows;
        rows = subst (HasGiven _ start c.flush.new.self) (sym (take-length r.rows)) given;
        rejections = begins-more named _ r.rejections _ (names-begun _ named _ r.rejections shown.rejections);
        unnamed = λ h. absurd (false≢true (sym sound ∙ h));
      });
  silent = silent-err c.from_residual.result _ _ c.from_residual.ensures.1;
  same_target = c.flush.ensures.sent.same_target;
}

pub returns : goal.returns
returns g c = record {
  taken = λ start named w file r shown.
      let old = c.args.self.now in
      let text = old.records.text in
      let start-names = g.E.Write.contents c.args.err.now.inner in
      let end-names = g.E.Write.contents c.put_name.new.rejections.inner in
      let line = rejection_line w file r.number text c.args.error in
      let why = c.as_slice.ensures.value
      ∙ subst (λ r. IfOk r (λ words. words.items ≡ naming_words old.wanted.now old.records.number text c.args.error))
      (mapped c.naming_words.result c.map_err.result _ _ c.map_err.ensures.cases c.in_ok-words.was) c.naming_words.ensures in
      let is : old.file.now ++ c.as_slice.result.now ≡ line = ap (λ us. old.file.now ++ us) why
      ∙ ap (λ q. cond {A = List ℕ} q [] (old.file.now ++ naming_words old.wanted.now old.records.number text c.args.error))
      (sym c.if-self.false) ∙ named-as w file old r c.args.error shown.knows in
      let sound = sym c.has_failed.ensures ∙ c.if-has_failed.false in
      let given = subst (HasGiven _ start c.flush.new.self) (append-nil r.rows) (c.flush.ensures.sent.given start r.rows shown.rows) in
      let before = names-all _ named start-names r.rejections c.requires.sound shown.rejections in
      weaker c.put_name.result c.put_name.new.rejections.failed _ _ _ _ (λ all. record {
        knows = knows-rejected w file old r c.args.error _ c.begins_document-self.ensures shown.knows;
        rows = given;
        rejections = all-names _ named end-names (r.rejections ++ line)
            (appends-then named start-names end-names r.rejections line before (subst (Appends start-names end-names) is all));
      }) (λ begun. record {
        all_taken = refl;
        count = length r.rows;
        rows = subst (HasGiven _ start c.flush.new.self) (sym (take-length r.rows)) given;
        rejections = begins-then named start-names end-names r.rejections line before (subst (Begins start-names end-names) is begun);
        unnamed = λ h. (sound, refl, flushed _ start c.flush.new.self r.rows sound c.flush.ensures.emptied given);
      }) (c.put_name.ensures c.requires.rejections);
  silent = silent-ends c.put_name.result c.put_name.new.rejections.failed _ _ (c.put_name.ensures c.requires.rejections);
  same_target = c.flush.ensures.sent.same_target;
}
