use Rattle.simd_json_theorems.proofs.Faults.Kinds.{input-fault, token-fault, answer-fault, padded-fault}
use Rattle.simd_json_theorems.proofs.laws.rejections_are_of_named_kinds.Goals as goal

pub returns-clause-input : goal.returns-clause-input
returns-clause-input c b e is = input-fault b e is

pub returns-clause-token : goal.returns-clause-token
returns-clause-token c b limit e is = token-fault b limit e is

pub returns-clause-either : goal.returns-clause-either
returns-clause-either c b limit e is = answer-fault b limit e is

pub returns-clause-padded : goal.returns-clause-padded
returns-clause-padded c s len limit e is = padded-fault s len limit e is
