use Rattle.simd_json_parts.proofs.Positions.Between.{position-first, no_position-within, whitespace-after}
use Rattle.simd_json_theorems.proofs.laws.tokens.only_whitespace_stands_between_tokens.Goals as goal

pub returns-clause-first : goal.returns-clause-first
returns-clause-first c = position-first

pub returns-clause-within : goal.returns-clause-within
returns-clause-within c = no_position-within

pub returns-clause-after : goal.returns-clause-after
returns-clause-after c = whitespace-after
