use Rattle.std.proofs.Common.{◌∙◌, ap, sym, option_map, arith}
use Rattle.std.proofs.lemmas.List.{drop_all}
use Rattle.std.proofs.lemmas.Str.{IsCharBoundary-after_ascii}
use Rattle.std.specs.Result.{result_ok}
use Rattle.simd_json_parts.specs.Pointed.{named, pointed}
use Rattle.simd_json.specs.Viewed.{doc}
use Rattle.simd_json_parts.proofs.Pointers.Pointed.{boundary, further, some-left, stop-of, stuck-at-token, whole}
use Rattle.simd_json_parts.proofs.Pointers.Splitting.{kept-all, kept-next}
use Rattle.simd_json.proofs.value.tape.value.Value.at.Goals as goal

pub range-token-requires-clause-start_le_end : goal.range-token-requires-clause-start_le_end
range-token-requires-clause-start_le_end g c =
    let l = c.loop-end in
    let p = c.as_str-text.result.now in
    let next = kept-next p l.at l.end-index c.ends-ends.result.now l.invariant.begins (omega arith) l.invariant.split in
    omega (arith, next.at.within)

pub range-token-requires-clause-start_boundary : goal.range-token-requires-clause-start_boundary
range-token-requires-clause-start_boundary g c some =
    let l = c.loop-end in
    let p = c.as_str-text.result.now in
    let next = kept-next p l.at l.end-index c.ends-ends.result.now l.invariant.begins (omega arith) l.invariant.split in
    IsCharBoundary-after_ascii p l.at c.as_str-text.utf8 next.at.begins.0 (omega (arith, next.at.begins.1))

pub range-token-requires-clause-end_boundary : goal.range-token-requires-clause-end_boundary
range-token-requires-clause-end_boundary g c =
    let l = c.loop-end in
    let p = c.as_str-text.result.now in
    let next = kept-next p l.at l.end-index c.ends-ends.result.now l.invariant.begins (omega arith) l.invariant.split in
    boundary p l.at _ next.at

pub returns-in_err-reached : goal.returns-in_err-reached
returns-in_err-reached g c =
    let l = c.loop-end in
    let p = c.as_str-text.result.now in
    let d = doc l.reached in
    let next = kept-next p l.at l.end-index c.ends-ends.result.now l.invariant.begins (omega arith) l.invariant.split in
    let nowhere = ap (λ t. result_ok (named t d)) (sym c.range-token.ensures.value) ∙ sym c.in_err-reached.ensures in
    ap (option_map doc) c.from_residual.ensures
    ∙ sym
    (ap (λ t. result_ok (pointed t (doc c.args.self.now))) (sym c.as_str-text.ensures) ∙ ap result_ok l.invariant.led
    ∙ stop-of l.at _ d (some-left p l.at next.at.begins.0) (stuck-at-token p l.at _ d next.at nowhere))

pub loop-end-preserved : goal.loop-end-preserved
loop-end-preserved g c =
    let l = c.loop-end in
    let p = c.as_str-text.result.now in
    let d = doc l.reached in
    let next = kept-next p l.at l.end-index c.ends-ends.result.now l.invariant.begins (omega arith) l.invariant.split in
    let leads = ap (λ t. result_ok (named t d)) (sym c.range-token.ensures.value) ∙ sym c.in_ok-reached.ensures in
    record {
      within = next.at.within.1;
      begins = next.at.goes_on;
      split = next.others;
      led = l.invariant.led ∙ further p l.at _ d (doc c.in_ok-reached.reached) next.at leads;
    }

pub returns : goal.returns
returns g c =
    let l = c.loop-end in
    let p = c.as_str-text.result.now in
    let none = sym l.invariant.split ∙ drop_all l.end-index c.ends-ends.result.now (omega arith) in
    sym
    (ap (λ t. result_ok (pointed t (doc c.args.self.now))) (sym c.as_str-text.ensures) ∙ ap result_ok l.invariant.led
    ∙ ap result_ok (whole l.at p (doc l.reached) (kept-all p l.at none)))
