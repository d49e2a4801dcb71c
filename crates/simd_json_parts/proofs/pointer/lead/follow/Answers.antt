use Rattle.std.proofs.Common.{◌+◌, ◌∙◌, ap, sym, subst, Some, Ok, arith, refl, []}
use Rattle.std.proofs.lemmas.Str.{IsCharBoundary-after_ascii}
use Rattle.std.specs.List.{slice_range}
use Rattle.simd_json_parts.specs.Followed.{IsPlain, IsTokenAt}
use Rattle.simd_json_parts.proofs.Pointers.Leading.{leads-further}
use Rattle.simd_json_parts.proofs.pointer.lead.follow.Goals as goal

pub loop-token-init : goal.loop-token-init
loop-token-init g c = (omega arith, ([], (refl, refl)))

pub range-text-requires-clause-start_boundary : goal.range-text-requires-clause-start_boundary
range-text-requires-clause-start_boundary g c some =
    let p = c.args.pointer.now in
    let i = c.loop-token.followed in
    let at = subst (λ b. IsTokenAt b i c.in-Some.token.end) c.as_bytes-bytes.ensures.value c.in-Some.ensures.0 in
    IsCharBoundary-after_ascii p i c.utf8.pointer at.begins.0 (omega (arith, at.begins.1))

pub child-requires : goal.child-requires
child-requires g c plain =
    subst IsPlain (ap (λ b. slice_range b (c.loop-token.followed + 1) c.in-Some.token.end) c.as_bytes-bytes.ensures.value
    ∙ sym c.range-text.ensures.value) (c.in-Some.ensures.1 plain)

pub loop-token-preserved : goal.loop-token-preserved
loop-token-preserved g c =
    let l = c.loop-token in
    let end = c.in-Some.token.end in
    let at = subst (λ b. IsTokenAt b l.followed end) c.as_bytes-bytes.ensures.value c.in-Some.ensures.0 in
    leads-further g.V.Parent.names c.args.pointer.now c.args.value l.followed end l.reached c.in-Ok-Some.next l.invariant at
    (subst (λ t. g.V.Parent.names l.reached t (Ok (Some c.in-Ok-Some.next))) c.range-text.ensures.value
    (subst (λ o. g.V.Parent.names l.reached c.range-text.result.now (Ok o)) c.in-Ok-Some.field-0-is c.in-Ok-Some.ensures))
