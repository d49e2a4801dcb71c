use Rattle.simd_json_theorems.proofs.Literals.LeadingZeros.{zero-alone, zero-alone-signed}
use Rattle.simd_json_theorems.proofs.laws.numbers.leading_zeros_stand_alone.Goals as goal

pub returns-clause-unsigned : goal.returns-clause-unsigned
returns-clause-unsigned c = zero-alone

pub returns-clause-signed : goal.returns-clause-signed
returns-clause-signed c = zero-alone-signed
