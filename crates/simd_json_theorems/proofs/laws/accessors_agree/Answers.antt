use Rattle.simd_json_theorems.proofs.Documents.Accessors.{value, rejected, at_key}
use Rattle.simd_json_theorems.proofs.laws.accessors_agree.Goals as goal

pub returns-clause-value : goal.returns-clause-value
returns-clause-value g c = value

pub returns-clause-rejected : goal.returns-clause-rejected
returns-clause-rejected g c = rejected

pub returns-clause-at_key : goal.returns-clause-at_key
returns-clause-at_key g c = at_key
