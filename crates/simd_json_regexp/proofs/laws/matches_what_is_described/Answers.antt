use Rattle.simd_json_regexp.proofs.Reading.{Matches-matches, matches-Matches}
use Rattle.simd_json_regexp.proofs.laws.matches_what_is_described.Goals as goal

pub returns : goal.returns
returns c p cs = (matches-Matches p cs, Matches-matches p cs)
