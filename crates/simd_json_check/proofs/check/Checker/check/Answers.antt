use Rattle.std.proofs.Common.{ap}
use Rattle.simd_json_stages.proofs.Exits.{passed-on}
use Rattle.simd_json_check.proofs.Whole.{check-rejected, rejected-listed}
use Rattle.simd_json_check.proofs.check.Checker.check.Goals as goal

pub returns-in_err-scan-clause-fault : goal.returns-in_err-scan-clause-fault
returns-in_err-scan-clause-fault g c =
    passed-on c.from_residual.result _ _ c.from_residual.ensures.1
    (check-rejected c.args.input.now c.args.max_depth c.self.inside.index c.args.self.now _ (ap (λ r. r.index) c.self.view_is)
    c.in_err-scan.ensures.fault)

pub returns-in_err-scan-clause-listed : goal.returns-in_err-scan-clause-listed
returns-in_err-scan-clause-listed g c =
    rejected-listed c.from_residual.result c.args.input.now c.self.inside.index _ c.scan.new.self.listed c.from_residual.ensures.1
    c.in_err-scan.ensures.fault c.in_err-scan.ensures.empty
