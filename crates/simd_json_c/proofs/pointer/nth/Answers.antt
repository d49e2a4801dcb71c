use Rattle.std.proofs.Common.{◌≡◌, ◌∙◌, ap, subst, arith, ◌+◌, length, slice_get}
use Rattle.simd_json_parts.specs.Document.{elements}
use Rattle.simd_json_parts.specs.Listing.{listing}
use Rattle.simd_json_c.proofs.Placing.{ElementsLeft, elements-all, next-element}
use Rattle.simd_json_c.proofs.pointer.nth.Goals as goal

pub loop-passed-init : goal.loop-passed-init
loop-passed-init c text ds a less = elements-all c.args.nodes.now text ds c.args.first a

pub loop-passed-preserved : goal.loop-passed-preserved
loop-passed-preserved c text ds a less =
    let nodes = c.args.nodes.now in
    let at = c.loop-passed.at in
    let i = c.loop-passed.passed in
    let next = next-element nodes text ds c.args.first i at (c.loop-passed.invariant text ds a less) (omega (arith, less)) in
    let same : at + length (listing next.value) ≡ c.in_ok-at.at = cc (c.in_ok-at.ensures text next.value next.placed) in
    subst (ElementsLeft nodes text ds c.args.first (i + 1)) same next.after

pub returns-in_err-at : goal.returns-in_err-at
returns-in_err-at c text ds a less =
    let nodes = c.args.nodes.now in
    let at = c.loop-passed.at in
    let i = c.loop-passed.passed in
    let next = next-element nodes text ds c.args.first i at (c.loop-passed.invariant text ds a less) (omega (arith, less)) in
    absurd (cc (c.in_err-at.ensures text next.value next.placed))

pub returns : goal.returns
returns c text ds a less =
    let nodes = c.args.nodes.now in
    let next =
    next-element nodes text ds c.args.first c.loop-passed.passed c.loop-passed.at
    (c.loop-passed.invariant text ds a less) (omega (arith, less)) in
    let same : c.args.index ≡ c.loop-passed.passed = omega arith in
    (next.value, ap (slice_get (elements ds)) same ∙ next.is, cc next.here, next.placed)
