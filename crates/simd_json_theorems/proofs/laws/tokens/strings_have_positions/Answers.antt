use Rattle.simd_json_parts.proofs.Positions.Order.{positions-inside, positions-bad}
use Rattle.simd_json_theorems.proofs.laws.tokens.strings_have_positions.Goals as goal

pub returns-clause-inside : goal.returns-clause-inside
returns-clause-inside c = positions-inside

pub returns-clause-bad : goal.returns-clause-bad
returns-clause-bad c = positions-bad
