use Rattle.std.proofs.Common.{drop}
use Rattle.jcheck.specs.Endings.{ended_after, is_closed}
use Rattle.jcheck.specs.declared.report.Ended.TheVariants.{Clean}
use Rattle.programs.proofs.Turns.{GoesOn}
use Rattle.jcheck.proofs.report.check_each.Given as goal

abbrev pub invariant-loop-file : goal.invariant-loop-file
invariant-loop-file g l = goal.F-IsAlwaysCallable g l.check
    × GoesOn (goal.F-step g) is_closed ended_after Clean l.fn.check l.fn.files l.check (drop l.file-index l.files) l.ended
