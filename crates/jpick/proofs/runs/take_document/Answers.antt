use Rattle.std.proofs.Common.{◌≡◌, ◌∙◌, ap, inl, inr, refl, subst, sym, true}
use Rattle.std.proofs.lemmas.Bool.{false≢true}
use Rattle.std.specs.Prelude.{◌&&◌, is_some}
use Rattle.jpick.specs.Picked.{no_line, picked_document, taken_of}
use Rattle.jpick.specs.Putting.{TakesDocument, port_fault}
use Rattle.jpick.proofs.Begun.{document-part}
use Rattle.jpick.proofs.Picking.{and-false, ends-as, ends-err, read-as-port}
use Rattle.jpick.proofs.Shown.{err-of, names-all, ok-of, stops-shown, taken-as}
use Rattle.jpick.proofs.runs.take_document.Goals as goal

pub returns-in_err-input-clause-taken : goal.returns-in_err-input-clause-taken
returns-in_err-input-clause-taken g c start named w file shown =
    let failed = c.in_err-input.ensures.bytes in
    let reading = c.read_all.new.reader.failed in
    let silent = c.requires.rejections in
    ends-err g.T.Target.state start c.args.picker.now c.args.rows.now _ _ named _ _ _ w file (picked_document w file)
    c.from_residual.result _ c.from_residual.ensures.1 (record {
      input = failed.1;
      read = failed.2;
      picked = no_line;
      part = inl refl;
      stops = stops-shown g.T.Target.state start w file c.args.picker.now c.args.picker.now c.args.rows.now named _ _ no_line refl silent shown;
    }) (failed.0 ∙ read-as-port reading ∙ ap (port_fault reading) (sym silent)) (ap (λ b. reading && b) silent ∙ and-false reading)
    (λ read. c.requires.rows)

pub returns-in_err-take_document-clause-taken : goal.returns-in_err-take_document-clause-taken
returns-in_err-take_document-clause-taken g c start named w file shown =
    let taken = subst (λ l. TakesDocument g.T.Target.state g.E.Write.contents c.args.picker.now c.take_document.new.self c.args.rows.now
    c.take_document.new.rows c.args.rejections.now c.take_document.new.err l c.take_document.result) c.as_mut_slice.ensures.value
    c.take_document.ensures.taken in
    let failed = err-of _ _ _ _ c.in_err-take_document.was (taken start named w file shown) in
    let read = c.in_ok-input.ensures.bytes in
    let none = read.0 in
    ends-err g.T.Target.state start c.take_document.new.self c.take_document.new.rows _ _ named _ _ _ w file (picked_document w file)
    c.from_residual-in_err-take_document.result _ c.from_residual-in_err-take_document.ensures.1 (record {
      input = c.in_ok-input.input.items;
      read = read.1.given;
      picked = failed.1.0;
      part = document-part w file (subst (λ v. v.is_document ≡ true) shown.knows.by c.requires.document) _ _ failed.1.1;
      stops = failed.1.2;
    }) (failed.0 ∙ sym (ap (λ b. port_fault b c.take_document.new.err.failed) none)) (ap (λ b. b && c.take_document.new.err.failed) none)
    (λ read. absurd (false≢true (sym none ∙ read)))

pub returns-clause-taken : goal.returns-clause-taken
returns-clause-taken g c start named w file shown =
    let input = c.in_ok-input.input.items in
    let taken = subst (λ l. TakesDocument g.T.Target.state g.E.Write.contents c.args.picker.now c.take_document.new.self c.args.rows.now
    c.take_document.new.rows c.args.rejections.now c.take_document.new.err l c.take_document.result) c.as_mut_slice.ensures.value
    c.take_document.ensures.taken in
    let all = ok-of _ _ _ _ c.in_ok-take_document.was (taken start named w file shown) in
    let read = c.in_ok-input.ensures.bytes in
    let new = c.take_document.new.self in
    let s = picked_document w file input in
    ends-as g.T.Target.state start new c.take_document.new.rows _ _ named _ _ _ w file (picked_document w file) (taken_of s) _ read.0 all.0
    (c.taken.ensures ∙ taken-as new w file s all.1.knows) (
      record {
        input = input;
        read = read.1.given;
        picked = s;
        part = document-part w file (subst (λ v. v.is_document ≡ true) shown.knows.by c.requires.document) _ _ (inr refl);
        stops = stops-shown g.T.Target.state start w file new new c.take_document.new.rows named _ _ s refl refl all.1;
      },
      (
        refl,
        refl,
        refl,
        λ sound. record {
          whole = refl;
          end = λ before. read.1.end;
          rows = all.1.rows;
          rejections = names-all (is_some c.take_document.new.rows.fault) named _ s.rejections sound all.1.rejections;
        },
      ),
    )
