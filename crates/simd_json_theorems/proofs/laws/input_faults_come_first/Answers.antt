use Rattle.std.proofs.Common.{ap}
use Rattle.simd_json_parts.specs.Answer.{answer, fault_or}
use Rattle.simd_json_parts.specs.Descent.{descent}
use Rattle.simd_json_theorems.proofs.laws.input_faults_come_first.Goals as goal

pub returns-clause-fault : goal.returns-clause-fault
unfolding answer
returns-clause-fault c b limit e is = ap (λ o. fault_or o (descent b limit)) is

pub returns-clause-none : goal.returns-clause-none
unfolding answer
returns-clause-none c b limit is = ap (λ o. fault_or o (descent b limit)) is
