use Rattle.simd_json_parts.proofs.Patterns.Sets.{Matches-matches, matches-Matches}
use Rattle.simd_json_theorems.proofs.laws.numbers.patterns_are_sets.Goals as goal

pub returns : goal.returns
returns c p bs = (matches-Matches p bs, Matches-matches p bs)
