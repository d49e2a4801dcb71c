use Rattle.simd_json_regexp.specs.Searches.{within}
use Rattle.simd_json_regexp.proofs.Reading.{Matches-matches, matches-Matches}
use Rattle.simd_json_regexp.proofs.Searching.{Finds-within, within-Finds}
use Rattle.simd_json_regexp.proofs.laws.finds_what_matches.Goals as goal

pub returns : goal.returns
returns c p cs = (
  λ yes. within-Finds p cs (matches-Matches (within p) cs yes),
  λ found. Matches-matches (within p) cs (Finds-within p cs found),
)
