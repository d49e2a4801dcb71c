use Rattle.std.proofs.Common.{drop}
use Rattle.jpick.specs.Files.{skips_files, status_after}
use Rattle.programs.proofs.Turns.{GoesOn}
use Rattle.jpick.proofs.files.pick_each.Given as goal

abbrev pub invariant-loop-file : goal.invariant-loop-file
invariant-loop-file g l = goal.F-IsAlwaysCallable g l.pick
    × GoesOn (goal.F-step g) skips_files status_after 0 l.fn.pick l.fn.files l.pick (drop l.file-index l.files) l.greatest
