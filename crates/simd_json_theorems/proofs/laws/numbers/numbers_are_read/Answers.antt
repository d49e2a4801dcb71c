use Rattle.simd_json_scalars.proofs.Numbers.Literals.{number_at-integer, number_at-decimal}
use Rattle.simd_json_theorems.proofs.laws.numbers.numbers_are_read.Goals as goal

pub returns-clause-integers : goal.returns-clause-integers
returns-clause-integers c = number_at-integer

pub returns-clause-decimals : goal.returns-clause-decimals
returns-clause-decimals c = number_at-decimal
