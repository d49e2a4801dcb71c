use Rattle.std.proofs.Common.{inl, inr}
use Rattle.simd_json_scalars.proofs.Numbers.Literals.{number-integer_or_decimal, integer-number, decimal-number, integer-not_decimal}
use Rattle.simd_json_theorems.proofs.laws.numbers.numbers_are_integers_or_decimals.Goals as goal

pub returns-clause-either : goal.returns-clause-either
returns-clause-either c bs = (number-integer_or_decimal bs, λ h. elim h [ inl m ↦ integer-number bs m | inr m ↦ decimal-number bs m ])

pub returns-clause-not_both : goal.returns-clause-not_both
returns-clause-not_both c = integer-not_decimal
