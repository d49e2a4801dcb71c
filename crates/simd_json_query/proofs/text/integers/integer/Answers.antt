use Rattle.std.proofs.Common.{refl, inl}
use Rattle.simd_json_query.proofs.Numbers.{natural-zero}
use Rattle.simd_json_query.proofs.text.integers.integer.Goals as goal

pub returns-in-Some-clause-integer : goal.returns-in-Some-clause-integer
returns-in-Some-clause-integer c = inl (0, refl, natural-zero _ _ c.in-Some.ensures.mark)
