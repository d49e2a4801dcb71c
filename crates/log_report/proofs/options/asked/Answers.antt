use Rattle.std.proofs.Common.{IfOk, Result, Ok, Err}
use Rattle.clap.specs.Simple.{app_of}
use Rattle.log_report.proofs.options.asked.Goals as goal

weaker : {O E : Type 0} (P Q : O → Type 0) (r : Result O E) → ((o : O) → P o → Q o) → IfOk r P → IfOk r Q
weaker P Q (Ok o) then is = then o is
weaker P Q (Err e) then is = tt

pub returns-clause-options : goal.returns-clause-options
returns-clause-options c =
    weaker _ _ c.of.result (λ asked has. (app_of c.in_ok-command.command, c.in_ok-matches.matches, c.in_ok-matches.ensures.ok.2, has))
    c.of.ensures.options
