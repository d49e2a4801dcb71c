use Rattle.std.proofs.Common.{◌∙◌, [], ap, arith, of_calls, sym, Bor, List, ℕ}
use Rattle.std.proofs.Math.ListN.{drop_of_length-le}
use Rattle.jcheck.specs.Endings.{ended_after, is_closed, worse}
use Rattle.jcheck.specs.declared.report.Ended.TheVariants.{Clean}
use Rattle.programs.proofs.Turns.{at-close, at-end, cut-at, one-more}
use Rattle.jcheck.proofs.report.check_each.Goals as goal

pub loop-file-preserved : goal.loop-file-preserved
loop-file-preserved g c = let none : Bor (List ℕ) = record { ref_ptr = (0, 0); now = [] } in (
  search of_calls,
  one-more (goal.F-step g) is_closed ended_after Clean c.args.check c.args.files.now c.loop-file.check c.check-checked.new.self _ _ _
      c.check-checked.result c.loop-file.ended c.and-ended.result
      (cut-at c.args.files.now c.loop-file.file-index none c.loop-file-test.true) c.check-checked.ensures
      (sym c.is_closed.ensures ∙ c.if-is_closed.false) (c.and-ended.ensures ∙ ap (worse c.loop-file.ended) c.of.ensures)
      c.loop-file.invariant.1,
)

pub returns-then-is_closed : goal.returns-then-is_closed
returns-then-is_closed g c =
    let none : Bor (List ℕ) = record { ref_ptr = (0, 0); now = [] } in
    at-close (goal.F-step g) is_closed ended_after Clean c.args.check c.args.files.now c.loop-file.check c.check-checked.new.self _ _ _
    c.check-checked.result c.loop-file.ended c.and-ended.result
    (cut-at c.args.files.now c.loop-file.file-index none c.loop-file-test.true) c.check-checked.ensures
    (sym c.is_closed.ensures ∙ c.if-is_closed.true) (c.and-ended.ensures ∙ ap (worse c.loop-file.ended) c.of.ensures)
    c.loop-file.invariant.1

pub returns : goal.returns
returns g c =
    at-end (goal.F-step g) is_closed ended_after Clean c.args.check c.args.files.now c.loop-file.check _ c.loop-file.ended
    (drop_of_length-le c.args.files.now (omega (arith, c.loop-file-test.false))) c.loop-file.invariant.1
