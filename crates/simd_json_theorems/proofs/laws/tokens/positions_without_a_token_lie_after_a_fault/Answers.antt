use Rattle.simd_json_parts.proofs.Positions.Between.{position-reached}
use Rattle.simd_json_theorems.proofs.laws.tokens.positions_without_a_token_lie_after_a_fault.Goals as goal

pub returns : goal.returns
returns c = position-reached
