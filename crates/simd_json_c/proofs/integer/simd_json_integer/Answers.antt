use Rattle.std.proofs.Common.{refl, inr, arith, subst}
use Rattle.simd_json_scalars.specs.NumberRead.{IsNumberAt}
use Rattle.simd_json_c.proofs.Integers.{not-integer, put, whole-len}
use Rattle.simd_json_c.proofs.integer.simd_json_integer.Goals as goal

pub returns-in_default : goal.returns-in_default
returns-in_default c =
    let b = c.args.literal.now in
    inr (not-integer b _ (c.parse_number.ensures b 0 refl) c.in_default.not-Integer, refl, refl, refl)

pub returns-then-len-literal : goal.returns-then-len-literal
returns-then-len-literal c =
    let b = c.args.literal.now in
    let read = subst (IsNumberAt b 0) c.in-Integer.is (c.parse_number.ensures b 0 refl) in
    inr ((λ minus n is. absurd (omega (arith, whole-len b _ _ read minus n is, c.if-len-literal.true))), refl, refl, refl)

pub returns : goal.returns
returns c =
    let b = c.args.literal.now in
    let read = subst (IsNumberAt b 0) c.in-Integer.is (c.parse_number.ensures b 0 refl) in
    put b _ _ _ _ _ read (omega (arith, c.if-len-literal.false)) c.bits_of-bits.ensures
