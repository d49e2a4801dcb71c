use Rattle.std.proofs.Common.{arith}
use Rattle.simd_json_scalars.proofs.Numbers.Values.{Grows, digits_value-grows, AllDigits-take}
use Rattle.simd_json_scalars.proofs.numberparse.integers.long_magnitude.Goals as goal

pub wide_magnitude-value-requires-clause-digits : goal.wide_magnitude-value-requires-clause-digits
wide_magnitude-value-requires-clause-digits c = AllDigits-take c.min-first.result c.args.digits.now c.requires

pub overflow_sub-digit : goal.overflow_sub-digit
overflow_sub-digit c = (digits_value-grows _ _ c.requires c.loop-at-test.true).low

pub returns-then-value-digit : goal.returns-then-value-digit
returns-then-value-digit c =
    let g : Grows c.args.digits.now c.loop-at.at = digits_value-grows _ _ c.requires c.loop-at-test.true in
    (c.loop-at-test.true, omega arith, omega arith)

pub loop-at-preserved : goal.loop-at-preserved
loop-at-preserved c =
    let g : Grows c.args.digits.now c.loop-at.at = digits_value-grows _ _ c.requires c.loop-at-test.true in
    omega arith
