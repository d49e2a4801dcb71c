use Rattle.std.proofs.Common.{◌∙◌, ◌+◌, ap, sym, subst, refl, arith, drop}
use Rattle.std.proofs.lemmas.List.{drop_all}
use Rattle.std.specs.List.{slice_range}
use Rattle.std.specs.Result.{result_ok}
use Rattle.simd_json_parts.specs.Pointed.{pointed}
use Rattle.simd_json_parts.proofs.Pointers.Pointed.{further, some-left, stop-of, stuck-at-token, stuck-without-slash, whole}
use Rattle.simd_json_parts.specs.Followed.{tokens_after}
use Rattle.simd_json_c.specs.Placed.{IsFound, before_followed, before_pointed}
use Rattle.simd_json_c.proofs.Placing.{before-next}
use Rattle.simd_json_c.proofs.pointer.walk.Goals as goal

pub loop-token-init : goal.loop-token-init
loop-token-init c = (omega arith, λ d a. (d, a, refl, refl))

pub loop-token-preserved : goal.loop-token-preserved
loop-token-preserved c =
    let p = c.args.pointer.now in
    let l = c.loop-token in
    let at = c.in-Some.ensures.0 in (
      at.within.1,
      λ d a. (let was = l.invariant.1 d a in
          let next = c.in_ok-reached.ensures was.0 was.1 in
          let end = c.in-Some.token.end in
          let split = ap (λ ts. before_followed ts was.0) at.split
          ∙ before-next (slice_range p (l.followed + 1) end) (tokens_after (drop end p)) was.0 next.0 next.1 in (
            next.0,
            next.3,
            was.2 ∙ further p l.followed end was.0 next.0 at next.1,
            omega (arith, next.2, split, was.3),
          )),
    )

pub returns-in_err-reached : goal.returns-in_err-reached
returns-in_err-reached c d a =
    let p = c.args.pointer.now in
    let i = c.loop-token.followed in
    let at = c.in-Some.ensures.0 in
    let was = c.loop-token.invariant.1 d a in
    subst (λ r. IsFound c.args.nodes.now c.args.text.now r (c.args.from + before_pointed p d) (result_ok (pointed p d)))
    (sym c.from_residual.ensures)
    (ap result_ok was.2
    ∙ stop-of i (drop i p) was.0 (some-left p i at.begins.0)
    (stuck-at-token p i c.in-Some.token.end was.0 at (c.in_err-reached.ensures was.0 was.1)))

pub returns-then-followed-pointer : goal.returns-then-followed-pointer
returns-then-followed-pointer c d a =
    let p = c.args.pointer.now in
    let i = c.loop-token.followed in
    let less = c.if-followed-pointer.true in
    let was = c.loop-token.invariant.1 d a in
    ap result_ok was.2
    ∙ stop-of i (drop i p) was.0 (some-left p i less) (stuck-without-slash p i was.0 less (c.in_default.ensures less))

pub returns : goal.returns
returns c d a =
    let was = c.loop-token.invariant.1 d a in
    let i = c.loop-token.followed in
    let none = ap (λ q. before_followed (tokens_after q) was.0) (drop_all i c.args.pointer.now (omega arith)) in
    (was.0, ap result_ok (was.2 ∙ whole i c.args.pointer.now was.0 (omega arith)), omega (arith, none, was.3), was.1)
