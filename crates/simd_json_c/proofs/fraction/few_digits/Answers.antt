use Rattle.std.proofs.Common.{◌∙◌, sym, arith}
use Rattle.simd_json_c.proofs.DigitTails.{grown}
use Rattle.simd_json_c.proofs.fraction.few_digits.Goals as goal

pub overflow_mul-number : goal.overflow_mul-number
overflow_mul-number c =
    let g = grown c.args.bytes.now c.loop-len.len c.loop-len.number c.loop-len-test.true (omega (arith, c.requires)) c.loop-len.invariant.0
    c.loop-len.invariant.2 (sym c.is_integer.ensures ∙ c.if-is_integer.true) in
    omega (arith, g.small)

pub overflow_add-number : goal.overflow_add-number
overflow_add-number c =
    let g = grown c.args.bytes.now c.loop-len.len c.loop-len.number c.loop-len-test.true (omega (arith, c.requires)) c.loop-len.invariant.0
    c.loop-len.invariant.2 (sym c.is_integer.ensures ∙ c.if-is_integer.true) in
    omega (arith, g.small)

pub loop-len-preserved : goal.loop-len-preserved
loop-len-preserved c =
    let g = grown c.args.bytes.now c.loop-len.len c.loop-len.number c.loop-len-test.true (omega (arith, c.requires)) c.loop-len.invariant.0
    c.loop-len.invariant.2 (sym c.is_integer.ensures ∙ c.if-is_integer.true) in
    (g.run, omega (arith, c.loop-len-test.true), g.value)
