use Rattle.std.proofs.Common.{◌≡◌, string_bytes}
use Rattle.programs.specs.Shown.{shown_characters}
use Rattle.programs.proofs.escapes.shown.Given as goal

abbrev pub invariant-loop-c : goal.invariant-loop-c
invariant-loop-c l = string_bytes l.shown ≡ shown_characters l.yielded
