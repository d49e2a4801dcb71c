use Rattle.std.proofs.Common.{◌≡◌, ◌∙◌, ◌+◌, refl, ap, arith, length, sym, subst, if◌then◌else◌}
use Rattle.simd_json_check.proofs.Places.StringScan.{IsOpen, scan-none, open-none, read-after, open-past, open-at, open-is}
use Rattle.simd_json_check.proofs.location.scan.open_quote.Goals as goal
use Rattle.simd_json_check.proofs.location.scan.open_quote.Goals.{then-is_quote+then-strings, then-is_quote+else-strings, else-is_quote}

pub loop-i-init : goal.loop-i-init
loop-i-init c = (scan-none c.args.input.now, open-none c.args.input.now (length c.args.input.now) refl)

pub loop-i-preserved : goal.loop-i-preserved
loop-i-preserved c =
    let b = c.args.input.now in
    let i = c.loop-i.i in
    let before = c.loop-i.strings in
    let after = c.after-strings.result in
    let l = c.loop-i-test.true in
    let s = read-after b i before.is_escaped before.is_inside l c.loop-i.invariant.0 after.is_escaped after.is_inside
    c.after-strings.ensures.escaped c.after-strings.ensures.inside in
    let at = open-at b i before.is_escaped before.is_inside l c.loop-i.invariant.0 c.is_quote-is_quote.result c.is_quote-is_quote.ensures
    c.if-is_quote.open after.is_escaped after.is_inside in (
      s,
      elim c.if-is_quote.branch [
        | then-is_quote+then-strings w ↦ at w.if-is_quote.true s (w.open-is ∙ sym (ap (λ t. if t then i else length b) w.if-strings.true))
        | then-is_quote+else-strings w ↦ at w.if-is_quote.true s (w.open-is ∙ sym (ap (λ t. if t then i else length b) w.if-strings.false))
        | else-is_quote w ↦ subst (λ o. IsOpen b (i + 1) o) (sym w.open-is)
            (open-past b i before.is_escaped before.is_inside l c.loop-i.invariant.0 c.is_quote-is_quote.result c.is_quote-is_quote.ensures
            c.loop-i.open w.if-is_quote.false c.loop-i.invariant.1)
      ],
    )

pub returns : goal.returns
returns c =
    let b = c.args.input.now in
    let end : c.loop-i.i ≡ length b = omega arith in
    sym (open-is b c.loop-i.open (subst (λ i. IsOpen b i c.loop-i.open) end c.loop-i.invariant.1))
