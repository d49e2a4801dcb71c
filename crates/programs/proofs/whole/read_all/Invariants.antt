use Rattle.std.proofs.Common.{◌≡◌, ◌-◌, ◌^◌, length, false}
use Rattle.std.specs.Io.KnownBytes.{Consumes}
use Rattle.programs.proofs.whole.read_all.Given as goal

abbrev pub invariant-loop-input : goal.invariant-loop-input
invariant-loop-input g l = record {
  read : Consumes (g.R.Read.remaining l.initial.reader.inner) (g.R.Read.remaining l.reader.inner) l.input.items;
  sound : l.reader.failed ≡ false;
}

abbrev pub decreases-loop-input : goal.decreases-loop-input
decreases-loop-input g l = 2 ^ 63 - length l.input.items
