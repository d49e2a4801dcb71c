use Rattle.std.proofs.Common.{◌≡◌, ◌∙◌, [], ap, false, refl, rules, subst, sym, true, Err}
use Rattle.std.specs.Prelude.{◌&&◌, OnOk}
use Rattle.std.proofs.KnownBytes.{Consumes-nil}
use Rattle.std.proofs.lemmas.Bool.{false≢true}
use Rattle.programs.proofs.Reading
use Rattle.programs.proofs.Reading.{first-more, first-now}
use Rattle.programs.specs.Lines.{Moves}
use Rattle.programs.specs.declared.failure.Failure.TheVariants.{Resources}
use Rattle.jpick.specs.Picked.{no_line, picked_lines}
use Rattle.jpick.specs.Putting.{TakesLine, port_fault}
use Rattle.jpick.proofs.Picking.{IsAt, and-false, block-read, end-read, end-taken, ends-err, has-taken, line-read, line-stopped, line-taken}
use Rattle.jpick.proofs.Picking.{ends-as, no-fault, over-taken, picked, read-as-port}
use Rattle.jpick.proofs.Shown.{err-of, ok-of, shows-flushed, stops-shown, taken-as}
use Rattle.jpick.proofs.runs.take_lines.Goals as goal
use Rattle.jpick.proofs.runs.take_lines.Goals.{in-Line+in_ok-take_line-in-Line, in-Block}
use Rattle.jpick.proofs.runs.take_lines.Goals.{then-has_failed-via-then-has_failed, then-has_failed-via-else-has_failed+then-is_over}

pub returns-in_err-line-clause-taken : goal.returns-in_err-line-clause-taken
returns-in_err-line-clause-taken g c start named w file shown =
    let lined = subst (λ v. v.is_document ≡ false) shown.knows.by c.requires.lines in
    let at = Reading.at-start w.longest [] (g.R.Read.remaining c.args.reader.now.inner) in
    ends-err g.T.Target.state start c.args.picker.now c.args.rows.now _ _ named _ _ _ w file (picked_lines w file)
    c.from_residual.result Resources c.from_residual.ensures.1
    (has-taken g.T.Target.state start w file lined c.args.picker.now c.args.rows.now named _ _ [] no_line (first-now at) refl
    (stops-shown g.T.Target.state start w file c.args.picker.now c.args.picker.now c.args.rows.now named _ _ no_line refl
    c.requires.rejections shown))
    (no-fault _ _ c.requires.reader c.requires.rejections) (ap (λ b. b && c.args.rejections.now.failed) c.requires.reader)
    (λ read. absurd (false≢true (sym c.requires.reader ∙ read)))

pub loop-init : goal.loop-init
loop-init g c = record {
  reader = c.requires.reader;
  rejections = c.requires.rejections;
  same_target = refl;
  at = λ start named w file shown.
      let longest = c.wanted.ensures ∙ shown.knows.by in
      subst (λ lines. IsAt g.T.Target.state start w file c.args.picker.now c.args.rows.now lines c.in_ok-line.line.items
      (g.R.Read.remaining c.args.reader.now.inner) (g.R.Read.remaining c.args.reader.now.inner) named
      (g.E.Write.contents c.args.rejections.now.inner))
      (sym (c.new-lines.ensures ∙ ap (λ v. record { longest = v.longest; has_ended = true; unread = [] }) longest)) (record {
        done = [];
        read = Reading.at-start w.longest c.in_ok-line.line.items (g.R.Read.remaining c.args.reader.now.inner);
        shown = shown;
      });
}

pub returns-then-has_failed-clause-taken : goal.returns-then-has_failed-clause-taken
returns-then-has_failed-clause-taken g c start named w file shown =
    let lined = subst (λ v. v.is_document ≡ false) shown.knows.by c.requires.lines in
    let at = c.loop.invariant.at start named w file shown in
    ends-as g.T.Target.state start c.loop.picker c.loop.rows _ _ named _ _ _ w file (picked_lines w file) _ _ c.loop.invariant.reader
    c.loop.invariant.rejections (c.taken.ensures ∙ taken-as c.loop.picker w file _ at.shown.knows)
    (over-taken g.T.Target.state start w file lined c.loop.picker c.loop.rows named _ at.done (first-now at.read)
    (λ sound. elim c.then-has_failed.branch [
      | then-has_failed-via-then-has_failed v ↦ absurd (false≢true (sym sound ∙ sym c.has_failed.ensures ∙ v.if-has_failed.true))
      | then-has_failed-via-else-has_failed+then-is_over v ↦ sym at.shown.knows.is_over ∙ sym v.is_over.ensures ∙ v.if-is_over.true
    ]) at.shown)

pub next-requires : goal.next-requires
next-requires g c = c.loop.invariant.reader

pub returns-in_err-next-clause-taken : goal.returns-in_err-next-clause-taken
returns-in_err-next-clause-taken g c start named w file shown =
    let lined = subst (λ v. v.is_document ≡ false) shown.knows.by c.requires.lines in
    let at = c.loop.invariant.at start named w file shown in
    let failed = c.in_err-next.ensures.moves in
    let silent = c.loop.invariant.rejections in
    let reading = c.next.new.reader.failed in
    ends-err g.T.Target.state start c.loop.picker c.loop.rows _ _ named _ _ _ w file (picked_lines w file)
    c.from_residual-in_err-next.result _ c.from_residual-in_err-next.ensures.1
    (has-taken g.T.Target.state start w file lined c.loop.picker c.loop.rows named _ _ at.done _
    (first-more at.read (failed.1, failed.2)) refl
    (stops-shown g.T.Target.state start w file c.loop.picker c.loop.picker c.loop.rows named _ _ _ refl silent at.shown))
    (failed.0 ∙ read-as-port reading ∙ ap (port_fault reading) (sym silent)) (ap (λ b. reading && b) silent ∙ and-false reading)
    (λ read. sym c.has_failed.ensures ∙ c.if-has_failed.false)

pub take_line-requires : goal.take_line-requires
take_line-requires g c = (
  search rules,
  (sym c.is_over.ensures ∙ c.if-is_over.false, (sym c.has_failed.ensures ∙ c.if-has_failed.false, c.loop.invariant.rejections)),
)

pub returns-in_err-take_line-in-Line-clause-taken : goal.returns-in_err-take_line-in-Line-clause-taken
returns-in_err-take_line-in-Line-clause-taken g c start named w file shown =
    let lined = subst (λ v. v.is_document ≡ false) shown.knows.by c.requires.lines in
    let at = c.loop.invariant.at start named w file shown in
    let moves = subst (Moves c.loop.lines c.next.new.self c.loop.line.items c.next.new.line.items (g.R.Read.remaining c.loop.reader.inner)
    (g.R.Read.remaining c.next.new.reader.inner)) c.in-Line.is c.in_ok-next.ensures.moves.1 in
    let taken = subst (λ l. TakesLine g.T.Target.state g.E.Write.contents c.loop.picker c.take_line.new.self c.loop.rows
    c.take_line.new.rows
    c.loop.rejections c.take_line.new.err l c.take_line.result) c.as_mut_slice.ensures.value c.take_line.ensures.taken in
    let failed = err-of _ _ _ _ c.in_err-take_line-in-Line.was (taken start named w file _ at.shown) in
    let none = c.in_ok-next.ensures.moves.0 in
    ends-err g.T.Target.state start c.take_line.new.self c.take_line.new.rows _ _ named _ _ _ w file (picked_lines w file)
    c.from_residual-in_err-take_line-in-Line.result _ c.from_residual-in_err-take_line-in-Line.ensures.1
    (line-stopped g.T.Target.state start w file lined c.take_line.new.self c.take_line.new.rows named _ _ at.done _
    (line-read g.T.Target.state start w file c.loop.picker c.loop.rows at moves) failed.1)
    (failed.0 ∙ sym (ap (λ b. port_fault b c.take_line.new.err.failed) none)) (ap (λ b. b && c.take_line.new.err.failed) none)
    (λ read. absurd (false≢true (sym none ∙ read)))

pub take_line-requires-in-End : goal.take_line-requires-in-End
take_line-requires-in-End g c = (
  search rules,
  (sym c.is_over.ensures ∙ c.if-is_over.false, (sym c.has_failed.ensures ∙ c.if-has_failed.false, c.loop.invariant.rejections)),
)

pub returns-in_err-take_line-in-End-clause-taken : goal.returns-in_err-take_line-in-End-clause-taken
returns-in_err-take_line-in-End-clause-taken g c start named w file shown =
    let lined = subst (λ v. v.is_document ≡ false) shown.knows.by c.requires.lines in
    let at = c.loop.invariant.at start named w file shown in
    let moves = subst (Moves c.loop.lines c.next.new.self c.loop.line.items c.next.new.line.items (g.R.Read.remaining c.loop.reader.inner)
    (g.R.Read.remaining c.next.new.reader.inner)) c.in-End.is c.in_ok-next.ensures.moves.1 in
    let taken = subst (λ l. TakesLine g.T.Target.state g.E.Write.contents c.loop.picker c.take_line-in-End.new.self c.loop.rows
    c.take_line-in-End.new.rows c.loop.rejections c.take_line-in-End.new.err l c.take_line-in-End.result)
    c.as_mut_slice-in-End.ensures.value c.take_line-in-End.ensures.taken in
    let failed = err-of _ _ _ _ c.in_err-take_line-in-End.was (taken start named w file _ at.shown) in
    let none = c.in_ok-next.ensures.moves.0 in
    ends-err g.T.Target.state start c.take_line-in-End.new.self c.take_line-in-End.new.rows _ _ named _ _ _ w file (picked_lines w file)
    c.from_residual-in_err-take_line-in-End.result _ c.from_residual-in_err-take_line-in-End.ensures.1
    (line-stopped g.T.Target.state start w file lined c.take_line-in-End.new.self c.take_line-in-End.new.rows named _ _ at.done _
    (end-read g.T.Target.state start w file c.loop.picker c.loop.rows c.next.new.self at moves).0 failed.1)
    (failed.0 ∙ sym (ap (λ b. port_fault b c.take_line-in-End.new.err.failed) none)) (ap (λ b. b && c.take_line-in-End.new.err.failed) none)
    (λ read. absurd (false≢true (sym none ∙ read)))

pub returns-in-End-clause-taken : goal.returns-in-End-clause-taken
returns-in-End-clause-taken g c start named w file shown =
    let lined = subst (λ v. v.is_document ≡ false) shown.knows.by c.requires.lines in
    let at = c.loop.invariant.at start named w file shown in
    let moves = subst (Moves c.loop.lines c.next.new.self c.loop.line.items c.next.new.line.items (g.R.Read.remaining c.loop.reader.inner)
    (g.R.Read.remaining c.next.new.reader.inner)) c.in-End.is c.in_ok-next.ensures.moves.1 in
    let taken = subst (λ l. TakesLine g.T.Target.state g.E.Write.contents c.loop.picker c.take_line-in-End.new.self c.loop.rows
    c.take_line-in-End.new.rows c.loop.rejections c.take_line-in-End.new.err l c.take_line-in-End.result)
    c.as_mut_slice-in-End.ensures.value c.take_line-in-End.ensures.taken in
    let all = ok-of _ _ _ _ c.in_ok-take_line-in-End.was (taken start named w file _ at.shown) in
    let end = end-read g.T.Target.state start w file c.loop.picker c.loop.rows c.next.new.self at moves in
    ends-as g.T.Target.state start c.take_line-in-End.new.self c.take_line-in-End.new.rows _ _ named _ _ _ w file (picked_lines w file) _ _
    c.in_ok-next.ensures.moves.0 all.0 (c.taken-in-End.ensures ∙ taken-as c.take_line-in-End.new.self w file _ all.1.knows)
    (end-taken g.T.Target.state start w file lined c.take_line-in-End.new.self c.take_line-in-End.new.rows named _ at.done _
    end.0 end.1 end.2 all.1)

pub loop-preserved : goal.loop-preserved
loop-preserved g c =
    elim c.match-branch-3.branch [
      | in-Line+in_ok-take_line-in-Line v ↦
          let moves =
          subst (Moves c.loop.lines c.next.new.self c.loop.line.items c.next.new.line.items (g.R.Read.remaining c.loop.reader.inner)
          (g.R.Read.remaining c.next.new.reader.inner)) v.in-Line.is c.in_ok-next.ensures.moves.1 in
          let taken =
          subst (λ l. TakesLine g.T.Target.state g.E.Write.contents c.loop.picker v.take_line.new.self c.loop.rows v.take_line.new.rows
          c.loop.rejections v.take_line.new.err l v.take_line.result) v.as_mut_slice.ensures.value v.take_line.ensures.taken in
          rw (v.picker-is, v.rows-is, v.rejections-is, v.line-is) (record {
            reader = c.in_ok-next.ensures.moves.0;
            rejections = subst (λ q. OnOk q (v.take_line.new.err.failed ≡ false)) v.in_ok-take_line-in-Line.was v.take_line.ensures.silent;
            same_target = v.take_line.ensures.same_target ∙ c.loop.invariant.same_target;
            at = λ start named w file shown.
                let at = c.loop.invariant.at start named w file shown in
                line-taken g.T.Target.state start w file c.loop.picker c.loop.rows v.take_line.new.self v.take_line.new.rows _ at moves
                (ok-of _ _ _ _ v.in_ok-take_line-in-Line.was (taken start named w file _ at.shown)).1;
          })
      | in-Block v ↦
          let moves =
          subst (Moves c.loop.lines c.next.new.self c.loop.line.items c.next.new.line.items (g.R.Read.remaining c.loop.reader.inner)
          (g.R.Read.remaining c.next.new.reader.inner)) v.in-Block.is c.in_ok-next.ensures.moves.1 in
          rw (v.picker-is, v.rows-is, v.rejections-is, v.line-is) (record {
            reader = c.in_ok-next.ensures.moves.0;
            rejections = c.loop.invariant.rejections;
            same_target = v.flush.ensures.sent.same_target ∙ c.loop.invariant.same_target;
            at = λ start named w file shown.
                let at = c.loop.invariant.at start named w file shown in
                block-read g.T.Target.state start w file c.loop.picker c.loop.rows v.flush.new.self at moves
                (shows-flushed g.T.Target.state start w file c.loop.picker c.loop.rows v.flush.new.self named _ _
                (sym c.has_failed.ensures ∙ c.if-has_failed.false) at.shown v.flush.ensures.sent);
          })
    ]

pub returns-clause-taken : goal.returns-clause-taken
returns-clause-taken g c start named w file shown =
    let lined = subst (λ v. v.is_document ≡ false) shown.knows.by c.requires.lines in
    let at = c.loop.invariant.at start named w file shown in
    let silent = c.loop.invariant.rejections in
    let none = c.loop.invariant.reader in
    ends-err g.T.Target.state start c.loop.picker c.loop.rows _ _ named _ _ _ w file (picked_lines w file) (Err Resources) Resources refl
    (has-taken g.T.Target.state start w file lined c.loop.picker c.loop.rows named _ _ at.done _
    (first-more at.read ([], Consumes-nil _)) refl
    (stops-shown g.T.Target.state start w file c.loop.picker c.loop.picker c.loop.rows named _ _ _ refl silent at.shown))
    (no-fault _ _ none silent) (ap (λ b. b && c.loop.rejections.failed) none)
    (λ read. absurd (false≢true (sym none ∙ read)))
