use Rattle.std.proofs.Common.{◌≡◌, ap, false, subst, sym}
use Rattle.log_report.specs.Runs.{has_failed}
use Rattle.log_report.proofs.Inputs.{sound-more}
use Rattle.log_report_main.proofs.report.Goals as goal

pub loop-file-preserved : goal.loop-file-preserved
loop-file-preserved c =
    subst (λ inputs. has_failed inputs ≡ false) (sym c.in_ok-push.ensures.items)
    (sound-more c.loop-file.inputs.items _ c.loop-file.invariant (ap (λ port. port.failed) c.new-reader.ensures))
