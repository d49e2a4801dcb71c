use Rattle.std.proofs.Common.{below_more, length, sym, arith}
use Rattle.simd_json_check.specs.Locations.{is_control_inside}
use Rattle.simd_json_check.proofs.Places.StringScan.{scan-none, read-after, control-here, control-outside, control-other, first_index-is}
use Rattle.simd_json_check.proofs.location.scan.control_inside.Goals as goal
use Rattle.simd_json_check.proofs.location.scan.control_inside.Goals.{else-strings-via-then-strings+else-byte-lt32}
use Rattle.simd_json_check.proofs.location.scan.control_inside.Goals.{else-strings-via-else-strings}

pub loop-i-init : goal.loop-i-init
loop-i-init c = (scan-none c.args.input.now, λ k h. absurd (omega arith))

pub returns-then-byte-lt32 : goal.returns-then-byte-lt32
returns-then-byte-lt32 c =
    let b = c.args.input.now in
    let i = c.loop-i.i in
    let before = c.loop-i.strings in
    let after = c.after-strings.result in
    let l = c.loop-i-test.true in
    let s = read-after b i before.is_escaped before.is_inside l c.loop-i.invariant.0 after.is_escaped after.is_inside
    c.after-strings.ensures.escaped c.after-strings.ensures.inside in
    sym (first_index-is (is_control_inside b) b i c.loop-i.auto.i-end c.loop-i.invariant.1
    (λ _. control-here b i after.is_escaped after.is_inside l s c.if-strings.true c.if-byte-lt32.true))

pub loop-i-preserved : goal.loop-i-preserved
loop-i-preserved c =
    let b = c.args.input.now in
    let i = c.loop-i.i in
    let before = c.loop-i.strings in
    let after = c.after-strings.result in
    let l = c.loop-i-test.true in
    let s = read-after b i before.is_escaped before.is_inside l c.loop-i.invariant.0 after.is_escaped after.is_inside
    c.after-strings.ensures.escaped c.after-strings.ensures.inside in (
      s,
      below_more _ _ c.loop-i.invariant.1 (elim c.else-strings.branch [
        | else-strings-via-then-strings+else-byte-lt32 w ↦ control-other b i after.is_escaped after.is_inside l s w.if-byte-lt32.false
        | else-strings-via-else-strings w ↦ control-outside b i after.is_escaped after.is_inside l s w.if-strings.false
      ]),
    )

pub returns : goal.returns
returns c =
    let b = c.args.input.now in
    sym (first_index-is (is_control_inside b) b (length b) (omega arith)
    (λ k h. c.loop-i.invariant.1 k (omega arith)) (λ h. absurd (omega arith)))
