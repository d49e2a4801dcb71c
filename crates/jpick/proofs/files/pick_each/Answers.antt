use Rattle.std.proofs.Common.{◌∙◌, [], ap, arith, max, of_calls, sym, Bor, List, ℕ}
use Rattle.std.proofs.Math.ListN.{drop_of_length-le}
use Rattle.jpick.specs.Files.{skips_files, status_after}
use Rattle.programs.proofs.Turns.{at-close, at-end, cut-at, one-more}
use Rattle.jpick.proofs.files.pick_each.Goals as goal

pub loop-file-preserved : goal.loop-file-preserved
loop-file-preserved g c = let none : Bor (List ℕ) = record { ref_ptr = (0, 0); now = [] } in (
  search of_calls,
  one-more (goal.F-step g) skips_files status_after 0 c.args.pick c.args.files.now c.loop-file.pick c.pick-picked.new.self _ _ _
      c.pick-picked.result c.loop-file.greatest c.max-greatest.result
      (cut-at c.args.files.now c.loop-file.file-index none c.loop-file-test.true) c.pick-picked.ensures
      (sym c.skips_files.ensures ∙ c.if-skips_files.false) (c.max-greatest.ensures ∙ ap (max c.loop-file.greatest) c.status.ensures)
      c.loop-file.invariant.1,
)

pub returns-then-skips_files : goal.returns-then-skips_files
returns-then-skips_files g c =
    let none : Bor (List ℕ) = record { ref_ptr = (0, 0); now = [] } in
    at-close (goal.F-step g) skips_files status_after 0 c.args.pick c.args.files.now c.loop-file.pick c.pick-picked.new.self _ _ _
    c.pick-picked.result c.loop-file.greatest c.max-greatest.result
    (cut-at c.args.files.now c.loop-file.file-index none c.loop-file-test.true) c.pick-picked.ensures
    (sym c.skips_files.ensures ∙ c.if-skips_files.true) (c.max-greatest.ensures ∙ ap (max c.loop-file.greatest) c.status.ensures)
    c.loop-file.invariant.1

pub returns : goal.returns
returns g c =
    at-end (goal.F-step g) skips_files status_after 0 c.args.pick c.args.files.now c.loop-file.pick _ c.loop-file.greatest
    (drop_of_length-le c.args.files.now (omega (arith, c.loop-file-test.false))) c.loop-file.invariant.1
