-- How many operators a test has.
use Rattle.std.proofs.Common.{◌+◌, ℕ, suc}
use Rattle.simd_json_query.specs.declared.filter.Test.{Test, Exists, Compare, Matches, Not', And', Or'}

abbrev pub operator_count : Test → ℕ
operator_count (Exists q) = 0
operator_count (Compare a c b) = 0
operator_count (Matches c m) = 0
operator_count (Not' p t) = suc (operator_count t)
operator_count (And' p t q u) = suc (operator_count t + operator_count u)
operator_count (Or' p t q u) = suc (operator_count t + operator_count u)
