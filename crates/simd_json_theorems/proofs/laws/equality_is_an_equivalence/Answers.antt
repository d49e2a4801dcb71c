use Rattle.simd_json_theorems.proofs.Documents.Equality.{IsEquivalence-equal, Decides-equal}
use Rattle.simd_json_theorems.proofs.laws.equality_is_an_equivalence.Goals as goal

pub returns-clause-equivalence : goal.returns-clause-equivalence
returns-clause-equivalence c = IsEquivalence-equal

pub returns-clause-same : goal.returns-clause-same
returns-clause-same c = Decides-equal
