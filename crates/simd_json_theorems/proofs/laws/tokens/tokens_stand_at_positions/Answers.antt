use Rattle.simd_json_parts.proofs.Positions.TokensAtPositions.{tokens-positions}
use Rattle.simd_json_theorems.proofs.laws.tokens.tokens_stand_at_positions.Goals as goal

pub returns : goal.returns
returns c = tokens-positions
