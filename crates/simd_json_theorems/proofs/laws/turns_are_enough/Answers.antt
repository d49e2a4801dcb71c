use Rattle.simd_json_parts.specs.Descent.{value_from}
use Rattle.simd_json_parts.proofs.Descent.ArrayTurns.{elements_by-turn}
use Rattle.simd_json_parts.proofs.Descent.ObjectTurns.{members_by-turn}
use Rattle.simd_json_parts.proofs.Descent.Shrinking.{value_from-takes}
use Rattle.simd_json_theorems.proofs.laws.turns_are_enough.Goals as goal

pub returns-clause-elements : goal.returns-clause-elements
returns-clause-elements c b missing levels ts =
    elements_by-turn b missing (value_from b missing levels) (value_from-takes b missing levels) ts

pub returns-clause-members : goal.returns-clause-members
returns-clause-members c b missing levels kind ts =
    members_by-turn b missing (value_from b missing levels) (value_from-takes b missing levels) kind ts
