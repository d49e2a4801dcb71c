use Rattle.simd_json_parts.proofs.Patterns.Sets.{Begins-longest_prefix, longest_prefix-longest}
use Rattle.simd_json_theorems.proofs.laws.numbers.longest_prefixes.Goals as goal

pub returns-clause-begins : goal.returns-clause-begins
returns-clause-begins c = Begins-longest_prefix

pub returns-clause-longest : goal.returns-clause-longest
returns-clause-longest c = longest_prefix-longest
