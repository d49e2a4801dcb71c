use Rattle.simd_json_parts.proofs.Positions.Order.{IsStrictlyIncreasing-positions, Contains-positions}
use Rattle.simd_json_theorems.proofs.laws.tokens.positions_rise.Goals as goal

pub returns-clause-rise : goal.returns-clause-rise
returns-clause-rise c = IsStrictlyIncreasing-positions

pub returns-clause-picked : goal.returns-clause-picked
returns-clause-picked c = Contains-positions
