use Rattle.std.proofs.Common.{◌+◌, arith}
use Rattle.simd_json_scalars.proofs.Numbers.Values.{Grows, digits_value-grows, digits_value-fits}
use Rattle.simd_json_scalars.proofs.numberparse.integers.short_magnitude.Goals as goal

pub overflow_mul-value : goal.overflow_mul-value
overflow_mul-value c =
    let g : Grows c.args.digits.now c.loop-digit.digit-index = digits_value-grows _ _ c.requires.digits c.loop-digit-test.true in
    omega (arith, digits_value-fits c.args.digits.now (c.loop-digit.digit-index + 1) c.requires.digits c.requires.short)

pub overflow_sub-value : goal.overflow_sub-value
overflow_sub-value c = (digits_value-grows _ _ c.requires.digits c.loop-digit-test.true).low

pub overflow_add-value : goal.overflow_add-value
overflow_add-value c =
    let g : Grows c.args.digits.now c.loop-digit.digit-index = digits_value-grows _ _ c.requires.digits c.loop-digit-test.true in
    omega (arith, digits_value-fits c.args.digits.now (c.loop-digit.digit-index + 1) c.requires.digits c.requires.short)

pub loop-digit-preserved : goal.loop-digit-preserved
loop-digit-preserved c =
    let g : Grows c.args.digits.now c.loop-digit.digit-index = digits_value-grows _ _ c.requires.digits c.loop-digit-test.true in
    omega arith
