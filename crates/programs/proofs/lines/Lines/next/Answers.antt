use Rattle.std.proofs.Common.{◌≡◌, ◌∙◌, ◌++◌, ap, inr, sym, subst, false}
use Rattle.std.specs.Io.KnownBytes.{Consumes}
use Rattle.programs.specs.Lines.{Cut, Takes, kept}
use Rattle.programs.proofs.Cuts.{cut-begun, cut-ended, cut-filled, cut-last, cut-taken, keeps-line, some-filled, unfilled}
use Rattle.programs.proofs.lines.Lines.next.Goals as goal

pub returns-then-not-branch-clause-moves : goal.returns-then-not-branch-clause-moves
returns-then-not-branch-clause-moves g c =
    let filled = c.in_ok-fill.ensures.1 in
    let end = filled.end c.if-not-branch.true in
    let longest : c.fill.new.self.longest ≡ c.args.self.now.longest =
    ap (λ (v : Cut). v.longest) filled.same ∙ ap (λ (v : Cut). v.longest) c.begin.ensures.cut in
    let ended = ap (λ (v : Cut). v.has_ended) c.begin.ensures.cut in (
      c.in_ok-fill.ensures.0,
      (
        longest,
        λ input done h.
            let at = cut-begun c.args.self.now c.begin.new.self c.args.line.now.items c.begin.new.line.items input done c.begin.ensures.cut
            c.begin.ensures.line h in (
              subst (Consumes (g.R.Read.remaining c.args.reader.now.inner) (g.R.Read.remaining c.fill.new.reader.inner)) end.1 filled.read,
              end.2,
              at.begun,
              keeps-line c.begin.new.self c.begin.new.line.items input done ended at
                  ∙ ap (λ n. kept n at.begun) (sym (ap (λ (v : Cut). v.longest) filled.same)),
              cut-last c.begin.new.self c.begin.new.line.items input done
                  (unfilled c.begin.new.self c.fill.new.self filled.more filled.same end.0 end.1) at,
            ),
      ),
    )

pub returns-then-branch-clause-moves : goal.returns-then-branch-clause-moves
returns-then-branch-clause-moves g c =
    let filled = c.in_ok-fill.ensures.1 in
    let taken = subst (Takes c.fill.new.self c.take.new.self c.begin.new.line.items c.take.new.line.items) c.if-branch.true
    c.in_ok-take.ensures in
    let longest : c.fill.new.self.longest ≡ c.args.self.now.longest =
    ap (λ (v : Cut). v.longest) filled.same ∙ ap (λ (v : Cut). v.longest) c.begin.ensures.cut in
    let ended : c.fill.new.self.has_ended ≡ false =
    ap (λ (v : Cut). v.has_ended) filled.same ∙ ap (λ (v : Cut). v.has_ended) c.begin.ensures.cut in (
      c.in_ok-fill.ensures.0,
      (
        ap (λ (v : Cut). v.longest) taken.same ∙ longest,
        λ input done h.
            let begun = cut-begun c.args.self.now c.begin.new.self c.args.line.now.items c.begin.new.line.items input done
            c.begin.ensures.cut c.begin.ensures.line h in
            let at = cut-filled c.begin.new.self c.fill.new.self c.begin.new.line.items input filled.more done filled.same begun in (
              filled.more,
              filled.read,
              at.begun ++ taken.front,
              taken.keeps at.begun (keeps-line c.fill.new.self c.begin.new.line.items (input ++ filled.more) done ended at)
                  ∙ ap (λ n. kept n (at.begun ++ taken.front)) (sym (ap (λ (v : Cut). v.longest) taken.same)),
              λ any. cut-ended c.fill.new.self c.take.new.self c.begin.new.line.items any (input ++ filled.more) taken.front
                  done taken.none taken.taken taken.same at,
            ),
      ),
    )

pub returns-clause-moves : goal.returns-clause-moves
returns-clause-moves g c =
    let filled = c.in_ok-fill.ensures.1 in
    let taken = subst (Takes c.fill.new.self c.take.new.self c.begin.new.line.items c.take.new.line.items) c.if-branch.false
    c.in_ok-take.ensures in
    let longest : c.fill.new.self.longest ≡ c.args.self.now.longest =
    ap (λ (v : Cut). v.longest) filled.same ∙ ap (λ (v : Cut). v.longest) c.begin.ensures.cut in
    let ended : c.fill.new.self.has_ended ≡ false =
    ap (λ (v : Cut). v.has_ended) filled.same ∙ ap (λ (v : Cut). v.has_ended) c.begin.ensures.cut in (
      c.in_ok-fill.ensures.0,
      (
        ap (λ (v : Cut). v.longest) taken.same ∙ longest,
        λ input done h.
            let begun = cut-begun c.args.self.now c.begin.new.self c.args.line.now.items c.begin.new.line.items input done
            c.begin.ensures.cut c.begin.ensures.line h in
            let at = cut-filled c.begin.new.self c.fill.new.self c.begin.new.line.items input filled.more done filled.same begun in (
              filled.more,
              filled.read,
              taken.taken.1,
              cut-taken c.fill.new.self c.take.new.self c.begin.new.line.items c.take.new.line.items (input ++ filled.more) taken.front
                  done taken.none taken.taken taken.same at
                  (taken.keeps at.begun (keeps-line c.fill.new.self c.begin.new.line.items (input ++ filled.more) done ended at)),
              (
                ap (λ (v : Cut). v.has_ended) taken.same,
                inr (some-filled c.args.self.now c.begin.new.self c.fill.new.self filled.more c.begin.ensures.cut filled.same
                    (filled.some c.if-not-branch.false)),
              ),
            ),
      ),
    )
