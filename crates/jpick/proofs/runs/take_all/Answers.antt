use Rattle.std.proofs.Common.{◌∙◌, ap, subst, sym}
use Rattle.jpick.specs.Putting.{EndsAll}
use Rattle.jpick.proofs.Begun.{document-all, lines-all}
use Rattle.jpick.proofs.runs.take_all.Goals as goal

pub returns-then-wanted-clause-taken : goal.returns-then-wanted-clause-taken
returns-then-wanted-clause-taken g c start named w file shown =
    let document = ap (λ v. v.is_document) (sym shown.knows.by ∙ sym c.wanted.ensures) ∙ c.if-wanted.true in
    subst (λ picked. EndsAll g.T.Target.state start c.take_document.new.picker c.take_document.new.rows
    (g.R.Read.remaining c.args.reader.now.inner) (g.R.Read.remaining c.take_document.new.reader.inner) named
    (g.E.Write.contents c.take_document.new.rejections.inner) c.take_document.new.reader.failed c.take_document.new.rejections.failed w file
    picked c.take_document.result) (sym (document-all w file document)) (c.take_document.ensures.taken start named w file shown)

pub returns-clause-taken : goal.returns-clause-taken
returns-clause-taken g c start named w file shown =
    let lined = ap (λ v. v.is_document) (sym shown.knows.by ∙ sym c.wanted.ensures) ∙ c.if-wanted.false in
    subst (λ picked. EndsAll g.T.Target.state start c.take_lines.new.picker c.take_lines.new.rows
    (g.R.Read.remaining c.args.reader.now.inner) (g.R.Read.remaining c.take_lines.new.reader.inner) named
    (g.E.Write.contents c.take_lines.new.rejections.inner) c.take_lines.new.reader.failed c.take_lines.new.rejections.failed w file
    picked c.take_lines.result) (sym (lines-all w file lined)) (c.take_lines.ensures.taken start named w file shown)

pub returns-then-wanted-clause-same_target : goal.returns-then-wanted-clause-same_target
returns-then-wanted-clause-same_target g c = c.take_document.ensures.same_target

pub returns-clause-same_target : goal.returns-clause-same_target
returns-clause-same_target g c = c.take_lines.ensures.same_target
