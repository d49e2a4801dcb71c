use Rattle.std.proofs.Common.{arith}
use Rattle.simd_json_stages.proofs.Machine.BetweenBlocks.{plain-to_first, plain-to_next}
use Rattle.simd_json_stages.proofs.laws.no_backslash_stands_between_listed_blocks.Goals as goal

pub returns-clause-first : goal.returns-clause-first
returns-clause-first c b i l = plain-to_first b i (omega arith) l

pub returns-clause-next : goal.returns-clause-next
returns-clause-next c b m i l from to = plain-to_next b m l i from to
