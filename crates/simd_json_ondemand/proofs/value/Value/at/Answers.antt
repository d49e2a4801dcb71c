use Rattle.std.proofs.Common.{◌∙◌, ap, sym, option_map, Some, Ok, ◌+◌, drop, get_or, arith}
use Rattle.std.proofs.lemmas.List.{drop_all}
use Rattle.std.proofs.lemmas.Str.{IsCharBoundary-after_ascii}
use Rattle.std.specs.List.{slice_range}
use Rattle.std.specs.Result.{result_ok}
use Rattle.simd_json_parts.specs.Document.{Document}
use Rattle.simd_json_parts.specs.Followed.{tokens_after}
use Rattle.simd_json_parts.specs.Pointed.{named, pointed}
use Rattle.simd_json_parts.proofs.Pointers.Pointed.{boundary, stuck-at-token}
use Rattle.simd_json_parts.proofs.Pointers.Splitting.{kept-all, kept-next}
use Rattle.simd_json_ondemand.specs.Docs.{doc}
use Rattle.simd_json_ondemand.specs.Reached.{followed_at, reach_further, named_at, pointed_at}
use Rattle.simd_json_ondemand.specs.Sites.{site}
use Rattle.simd_json_ondemand.specs.Stopped.{told}
use Rattle.simd_json_ondemand.specs.Walks.{found}
use Rattle.simd_json_ondemand.proofs.Pointers.{IsFollowed-further, led-nowhere, led-there, nowhere}
use Rattle.simd_json_ondemand.proofs.Sites.{is-step, leads-nowhere, on-all, on-behind, on-token}
use Rattle.simd_json_ondemand.proofs.Told.{found-some}
use Rattle.simd_json_ondemand.proofs.value.Value.at.Goals as goal

pub range-token-requires-clause-start_le_end : goal.range-token-requires-clause-start_le_end
range-token-requires-clause-start_le_end g c =
    let l = c.loop-end in
    let p = c.as_str-text.result.now in
    let next = kept-next p l.at l.end-index c.ends-ends.result.now l.invariant.begins (omega arith) l.invariant.split in
    omega (arith, next.at.within)

pub range-token-requires-clause-start_boundary : goal.range-token-requires-clause-start_boundary
range-token-requires-clause-start_boundary g c some =
    let l = c.loop-end in
    let p = c.as_str-text.result.now in
    let next = kept-next p l.at l.end-index c.ends-ends.result.now l.invariant.begins (omega arith) l.invariant.split in
    IsCharBoundary-after_ascii p l.at c.as_str-text.utf8 next.at.begins.0 (omega (arith, next.at.begins.1))

pub range-token-requires-clause-end_boundary : goal.range-token-requires-clause-end_boundary
range-token-requires-clause-end_boundary g c =
    let l = c.loop-end in
    let p = c.as_str-text.result.now in
    let next = kept-next p l.at l.end-index c.ends-ends.result.now l.invariant.begins (omega arith) l.invariant.split in
    boundary p l.at _ next.at

pub returns-in_err-reached-clause-document : goal.returns-in_err-reached-clause-document
returns-in_err-reached-clause-document g c = λ d h.
    let l = c.loop-end in
    let p = c.as_str-text.result.now in
    let next = kept-next p l.at l.end-index c.ends-ends.result.now l.invariant.begins (omega arith) l.invariant.split in
    ap (option_map doc) c.from_residual.ensures
    ∙ led-nowhere p c.args.self l.reached l.at l.invariant.led next.at.begins.0
    (λ e r. stuck-at-token p l.at _ e next.at
    (ap (λ t. result_ok (named t e)) (sym c.range-token.ensures.value)
    ∙ nowhere _ (ap (option_map doc) c.in_err-reached.ensures
    ∙ (is-step c.range-token.result.now l.reached e r c.child.result c.child.ensures).finds))) d h
    ∙ ap (λ t. option_map (λ (e : Document). Some e) (result_ok (pointed t d))) c.as_str-text.ensures

pub returns-in_err-reached-clause-walk : goal.returns-in_err-reached-clause-walk
returns-in_err-reached-clause-walk g c =
    let l = c.loop-end in
    let p = c.as_str-text.result.now in
    let end = get_or c.ends-ends.result.now l.end-index 0 in
    let next = kept-next p l.at l.end-index c.ends-ends.result.now l.invariant.begins (omega arith) l.invariant.split in
    ap (option_map site) c.from_residual.ensures ∙ sym (leads-nowhere c.child.result _ c.in_err-reached.ensures)
    ∙ ap found (sym (l.invariant.ahead ∙ on-token p l.at end next.at (site l.reached)
    ∙ ap (λ r. reach_further r (followed_at (tokens_after (drop end p))))
    (ap (λ t. named_at t (site l.reached)) (sym c.range-token.ensures.value) ∙ sym c.child.ensures)))
    ∙ ap (λ t. found (pointed_at t (site c.args.self))) c.as_str-text.ensures

pub loop-end-preserved : goal.loop-end-preserved
loop-end-preserved g c =
    let l = c.loop-end in
    let p = c.as_str-text.result.now in
    let end = get_or c.ends-ends.result.now l.end-index 0 in
    let next = kept-next p l.at l.end-index c.ends-ends.result.now l.invariant.begins (omega arith) l.invariant.split in
    let reached = c.in_ok-reached.reached in
    let step = ap (told (option_map site)) (sym (found-some c.child.result reached c.in_ok-reached.ensures)) ∙ c.child.ensures
    ∙ ap (λ t. named_at t (site l.reached)) c.range-token.ensures.value in
    record {
      within = next.at.within.1;
      begins = next.at.goes_on;
      split = next.others;
      led =
          IsFollowed-further p c.args.self l.reached reached l.at _ l.invariant.led next.at
          (λ e r. (is-step (slice_range p (l.at + 1) end) l.reached e r (Ok (Some reached)) step).finds);
      ahead =
          l.invariant.ahead ∙ on-token p l.at end next.at (site l.reached)
          ∙ ap (λ r. reach_further r (followed_at (tokens_after (drop end p)))) (sym step) ∙ on-behind p l.at end next.at (site reached);
    }

pub returns-clause-document : goal.returns-clause-document
returns-clause-document g c = λ d h.
    let l = c.loop-end in
    let p = c.as_str-text.result.now in
    let none = sym l.invariant.split ∙ drop_all l.end-index c.ends-ends.result.now (omega arith) in
    led-there p c.args.self l.reached l.at l.invariant.led (kept-all p l.at none) d h
    ∙ ap (λ t. option_map (λ (e : Document). Some e) (result_ok (pointed t d))) c.as_str-text.ensures

pub returns-clause-walk : goal.returns-clause-walk
returns-clause-walk g c =
    let l = c.loop-end in
    let p = c.as_str-text.result.now in
    let none = sym l.invariant.split ∙ drop_all l.end-index c.ends-ends.result.now (omega arith) in
    ap found (sym (l.invariant.ahead ∙ on-all p l.at (site l.reached) (kept-all p l.at none)))
    ∙ ap (λ t. found (pointed_at t (site c.args.self))) c.as_str-text.ensures
