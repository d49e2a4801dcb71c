use Rattle.simd_json_theorems.proofs.Faults.Root.{fault-reported}
use Rattle.simd_json_theorems.proofs.laws.faults_are_not_reported_late.Goals as goal

pub returns : goal.returns
returns c b limit e none is = (fault-reported b limit e none is).not_late
