use Rattle.std.proofs.Common.{◌≡◌, false}
use Rattle.log_report.specs.Runs.{has_failed}
use Rattle.log_report_main.proofs.report.Given as goal

abbrev pub invariant-loop-file : goal.invariant-loop-file
invariant-loop-file l = has_failed l.inputs.items ≡ false
