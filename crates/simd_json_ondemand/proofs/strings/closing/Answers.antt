use Rattle.std.proofs.Common.{◌≡◌, refl, sym, ◌∙◌, subst, ◌+◌, arith}
use Rattle.std.proofs.lemmas.List.{get_or_default}
use Rattle.simd_json_parts.specs.Bytes.{byte_at, backslash}
use Rattle.simd_json_ondemand.proofs.Quoted.{IsAhead, plain-ahead, opening-ahead, escape-ahead, closing-found}
use Rattle.simd_json_ondemand.proofs.strings.closing.Goals as goal

pub loop-end-init : goal.loop-end-init
loop-end-init c =
    let bs = c.args.bytes.now in
    subst (IsAhead bs) (sym c.plain_end-end.ensures.value)
    (plain-ahead bs 1 _ (opening-ahead bs c.requires.opening) c.requires.closing refl)

pub plain_end-end-requires-in-loop-end : goal.plain_end-end-requires-in-loop-end
plain_end-end-requires-in-loop-end c =
    let bs = c.args.bytes.now in
    let end = c.loop-end.end in
    let here : byte_at bs end ≡ backslash = get_or_default bs end 32 0 c.loop-end.invariant.inside ∙ c.loop-end-test.true in
    omega (arith, (escape-ahead bs end c.loop-end.invariant c.requires.closing here).within, c.requires.closing)

pub loop-end-preserved : goal.loop-end-preserved
loop-end-preserved c =
    let bs = c.args.bytes.now in
    let end = c.loop-end.end in
    let here : byte_at bs end ≡ backslash = get_or_default bs end 32 0 c.loop-end.invariant.inside ∙ c.loop-end-test.true in
    subst (IsAhead bs) (sym c.plain_end-end-in-loop-end.ensures.value)
    (plain-ahead bs (end + 2) _ (escape-ahead bs end c.loop-end.invariant c.requires.closing here).ahead c.requires.closing refl)

pub returns-clause-value : goal.returns-clause-value
returns-clause-value c =
    let bs = c.args.bytes.now in
    let end = c.loop-end.end in
    (closing-found bs end c.loop-end.invariant
    (λ e. c.loop-end-test.false (sym (get_or_default bs end 32 0 c.loop-end.invariant.inside) ∙ e))).0

pub returns-clause-quote : goal.returns-clause-quote
returns-clause-quote c =
    let bs = c.args.bytes.now in
    let end = c.loop-end.end in
    (closing-found bs end c.loop-end.invariant
    (λ e. c.loop-end-test.false (sym (get_or_default bs end 32 0 c.loop-end.invariant.inside) ∙ e))).1
