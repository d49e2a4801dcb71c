use Rattle.std.proofs.Common.{◌≡◌, ◌∙◌, ap, arith, sym, suc, ◌-◌, ◌<◌, length, Some, get_or}
use Rattle.std.proofs.lemmas.List.{get_or_default}
use Rattle.simd_json_check.specs.Reasons.{byte_before}
use Rattle.simd_json_parts.specs.Bytes.{byte_at, is_whitespace, space}
use Rattle.simd_json_check.proofs.Places.ByteBefore.{before-zero, before-white, before-byte, before-min}
use Rattle.simd_json_check.proofs.location.context.byte_before.Goals as goal

pub loop-end-init : goal.loop-end-init
loop-end-init c = (ap (byte_before c.args.input.now) c.min-end.ensures ∙ before-min c.args.input.now c.args.i, omega arith)

pub returns-then-not-is_whitespace : goal.returns-then-not-is_whitespace
returns-then-not-is_whitespace c =
    let at = c.loop-end.end - 1 in
    let next : suc at ≡ c.loop-end.end = omega arith in
    let within : at < length c.args.input.now = omega (arith, c.loop-end.invariant.1) in
    let byte : get_or c.args.input.now at 0 ≡ byte_at c.args.input.now at = get_or_default c.args.input.now at 0 space within in
    ap Some byte
    ∙ sym (before-byte c.args.input.now at (ap is_whitespace (sym byte) ∙ sym c.is_whitespace.ensures ∙ c.if-not-is_whitespace.true))
    ∙ ap (byte_before c.args.input.now) next ∙ c.loop-end.invariant.0

pub loop-end-preserved : goal.loop-end-preserved
loop-end-preserved c =
    let at = c.loop-end.end - 1 in
    let next : suc at ≡ c.loop-end.end = omega arith in
    let within : at < length c.args.input.now = omega (arith, c.loop-end.invariant.1) in
    let byte : get_or c.args.input.now at 0 ≡ byte_at c.args.input.now at = get_or_default c.args.input.now at 0 space within in (
      sym (before-white c.args.input.now at (ap is_whitespace (sym byte) ∙ sym c.is_whitespace.ensures ∙ c.if-not-is_whitespace.false))
          ∙ ap (byte_before c.args.input.now) next ∙ c.loop-end.invariant.0,
      omega arith,
    )

pub returns : goal.returns
returns c =
    let none : c.loop-end.end ≡ 0 = omega arith in
    sym (before-zero c.args.input.now) ∙ ap (byte_before c.args.input.now) (sym none) ∙ c.loop-end.invariant.0
