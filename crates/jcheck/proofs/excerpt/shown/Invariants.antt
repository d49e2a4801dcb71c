use Rattle.std.proofs.Common.{◌≡◌, string_bytes}
use Rattle.jcheck.specs.Excerpts.{visible_text}
use Rattle.jcheck.proofs.excerpt.shown.Given as goal

abbrev pub invariant-loop-c : goal.invariant-loop-c
invariant-loop-c l = string_bytes l.text ≡ visible_text l.yielded
