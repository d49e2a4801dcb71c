use Rattle.std.proofs.Common.{◌≡◌, ◌∙◌, ◌+◌, ap, sym, arith, length, slice_range}
use Rattle.simd_json_serde.proofs.Borrowed.{same-part}
use Rattle.simd_json_serde.proofs.format.NodeReaderFormat.plain_str.Goals as goal

pub returns-else-eq-clause-err : goal.returns-else-eq-clause-err
returns-else-eq-clause-err c h =
    let found = c.in_ok-text.ensures.exact ∙ h.2 in
    let text : c.in_ok-text.text.now ≡ h.1 = cc in
    let start : c.in-Some.start ≡ h.0 = cc (c.in-Some.ensures ∙ h.3) in
    let len = ap length text in
    let end : c.saturating_add-end.result ≡ h.0 + length h.1 = omega (arith, c.saturating_add-end.ensures, start, len, h.4) in
    let range : slice_range c.args.input.now c.in-Some.start c.saturating_add-end.result ≡ c.as_bytes.result.now =
    ap (λ s. slice_range c.args.input.now s c.saturating_add-end.result) start ∙ ap (slice_range c.args.input.now h.0) end ∙ h.5
    ∙ sym (c.as_bytes.ensures.value ∙ text) in
    same-part c.get.result c.as_bytes.result c.args.input.now c.in-Some.start c.saturating_add-end.result c.get.ensures.lookup.0
    c.get.ensures.lookup.1 (omega (arith, start, end)) (omega (arith, end, h.4)) range c.if-eq.ensures
