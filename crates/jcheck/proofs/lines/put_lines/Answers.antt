use Rattle.std.proofs.Common.{◌∙◌, ◌+◌, ◌^◌, ◌-◌, [], arith, refl, rules, subst, sym}
use Rattle.std.proofs.KnownBytes.{Consumes-nil}
use Rattle.std.proofs.lemmas.Bool.{false≢true}
use Rattle.std.proofs.lemmas.Result.{err_from_is_err_and}
use Rattle.jcheck.specs.Writings.{TakesLine}
use Rattle.jcheck.proofs.Streams.{AreDone, all-done, block-done, end-stopped, line-done, line-stopped, none-done, others-lost}
use Rattle.jcheck.proofs.Streams.{reading-stopped}
use Rattle.programs.specs.Lines.{Moves}
use Rattle.jcheck.proofs.lines.put_lines.Goals as goal
use Rattle.jcheck.proofs.lines.put_lines.Goals.{in-Line+in_ok-put-in-Line, in-Block}

pub loop-init : goal.loop-init
loop-init g c =
    let start = c.new-reports.ensures.start in
    let first = g.R.Read.remaining c.args.reader.now.inner in
    record {
      depth = refl;
      file = c.new-reports.ensures.file;
      style = c.new-reports.ensures.style;
      reader = c.requires;
      done = subst (λ lines. AreDone c.args.file.now c.args.style c.args.checker.now.depth g.T.Target.state c.args.text.now (2 ^ 64 - 1)
          first c.args.text.now c.new-reports.result lines c.new-line.result.items first) (sym c.new-lines.ensures)
          (none-done c.args.file.now c.args.style c.args.checker.now.depth g.T.Target.state c.args.text.now (2 ^ 64 - 1) first
          c.new-reports.result c.new-line.result.items start.0 start.1 start.2);
    }

pub returns-then-has_failed-clause-put : goal.returns-then-has_failed-clause-put
returns-then-has_failed-clause-put g c =
    others-lost _ _ _ _ _ _ _ c.loop.invariant.done c.loop.reports.all_clean (sym c.has_failed.ensures ∙ c.if-has_failed.true)
    c.loop.invariant.reader

pub next-requires : goal.next-requires
next-requires g c = c.loop.invariant.reader

pub returns-in-Err-clause-stopped : goal.returns-in-Err-clause-stopped
returns-in-Err-clause-stopped g c =
    let failed = c.in-Err.ensures.moves in
    reading-stopped _ _ _ _ _ _ _ c.loop.invariant.done (failed.1, failed.2) (λ _. sym c.has_failed.ensures ∙ c.if-has_failed.false)
    c.of_input.ensures.input (λ read. c.of_input.ensures.memory (c.fault.ensures ∙ read))

pub returns-in_err-put-in-Line-clause-stopped : goal.returns-in_err-put-in-Line-clause-stopped
returns-in_err-put-in-Line-clause-stopped g c =
    let p = err_from_is_err_and c.from_residual.result c.from_residual.ensures.1 in
    let moves = subst (Moves c.loop.lines c.next.new.self c.loop.line.items c.next.new.line.items (g.R.Read.remaining c.loop.reader.inner)
    (g.R.Read.remaining c.next.new.reader.inner)) c.in-Line.is c.in-Ok.ensures.moves.1 in
    rw p.1 (line-stopped _ _ _ _ _ _ _ c.loop.invariant.done moves c.in_err-put-in-Line.ensures.none c.in-Ok.ensures.moves.0 p.2)

pub returns-in_err-put-in-End-clause-stopped : goal.returns-in_err-put-in-End-clause-stopped
returns-in_err-put-in-End-clause-stopped g c =
    let p = err_from_is_err_and c.from_residual-in_err-put-in-End.result c.from_residual-in_err-put-in-End.ensures.1 in
    let moves = subst (Moves c.loop.lines c.next.new.self c.loop.line.items c.next.new.line.items (g.R.Read.remaining c.loop.reader.inner)
    (g.R.Read.remaining c.next.new.reader.inner)) c.in-End.is c.in-Ok.ensures.moves.1 in
    rw p.1 (end-stopped _ _ _ _ _ _ _ c.loop.invariant.done c.next.new.self moves c.in_err-put-in-End.ensures.none
    c.in-Ok.ensures.moves.0 p.2)

pub returns-in-End-clause-put : goal.returns-in-End-clause-put
returns-in-End-clause-put g c =
    let moves = subst (Moves c.loop.lines c.next.new.self c.loop.line.items c.next.new.line.items (g.R.Read.remaining c.loop.reader.inner)
    (g.R.Read.remaining c.next.new.reader.inner)) c.in-End.is c.in-Ok.ensures.moves.1 in
    let taken = subst (TakesLine g.T.Target.state c.loop.text c.put-in-End.new.text c.loop.checker.depth c.loop.reports
    c.put-in-End.new.self) c.as_slice-in-End.ensures.value c.in_ok-put-in-End.ensures.taken in
    all-done _ _ _ _ _ _ _ c.loop.invariant.done c.loop.invariant.file c.loop.invariant.style c.loop.invariant.depth
    (omega (arith, c.as_slice-in-End.ensures.len)) taken c.next.new.self moves c.in-Ok.ensures.moves.0

pub loop-preserved : goal.loop-preserved
loop-preserved g c =
    elim c.match-event.branch [
      | in-Line+in_ok-put-in-Line v ↦
          let moves =
          subst (Moves c.loop.lines c.next.new.self c.loop.line.items c.next.new.line.items (g.R.Read.remaining c.loop.reader.inner)
          (g.R.Read.remaining c.next.new.reader.inner)) v.in-Line.is c.in-Ok.ensures.moves.1 in
          let taken = subst (TakesLine g.T.Target.state c.loop.text v.put.new.text c.loop.checker.depth c.loop.reports v.put.new.self)
          v.as_slice.ensures.value v.in_ok-put-in-Line.ensures.taken in
          rw (v.checker-is, v.text-is, v.reports-is) (record {
            depth = v.in_ok-put-in-Line.ensures.depth ∙ c.loop.invariant.depth;
            file = v.in_ok-put-in-Line.ensures.file ∙ c.loop.invariant.file;
            style = v.in_ok-put-in-Line.ensures.style ∙ c.loop.invariant.style;
            reader = c.in-Ok.ensures.moves.0;
            done = line-done _ _ _ _ _ _ _ c.loop.invariant.done c.loop.invariant.file c.loop.invariant.style c.loop.invariant.depth
                (omega (arith, v.as_slice.ensures.len)) taken c.next.new.line.items moves;
          })
      | in-Block v ↦
          let moves =
          subst (Moves c.loop.lines c.next.new.self c.loop.line.items c.next.new.line.items (g.R.Read.remaining c.loop.reader.inner)
          (g.R.Read.remaining c.next.new.reader.inner)) v.in-Block.is c.in-Ok.ensures.moves.1 in
          rw (v.checker-is, v.text-is, v.reports-is) (record {
            depth = c.loop.invariant.depth;
            file = c.loop.invariant.file;
            style = c.loop.invariant.style;
            reader = c.in-Ok.ensures.moves.0;
            done = block-done _ _ _ _ _ _ _ c.loop.invariant.done moves v.flush.ensures.sent;
          })
    ]

pub returns-clause-stopped : goal.returns-clause-stopped
returns-clause-stopped g c =
    reading-stopped _ _ _ _ _ _ _ c.loop.invariant.done ([], Consumes-nil _)
    (λ read. absurd (false≢true (sym c.loop.invariant.reader ∙ read))) c.from.ensures.0 (λ _. c.from.ensures)
