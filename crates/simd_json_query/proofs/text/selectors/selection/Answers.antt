use Rattle.std.proofs.Common.{arith, rules}
use Rattle.simd_json_query.specs.Queries.{SelectorText}
use Rattle.simd_json_query.proofs.Lists.{selectors-more}
use Rattle.simd_json_query.proofs.text.selectors.selection.Goals as goal

pub more-preserved : goal.more-preserved
more-preserved g c = (
  search rules,
  rw c.in_ok-push-2.ensures.items
      (selectors-more SelectorText _ _ _ _ c.skip_blanks-end.result.now c.in-Some-after.others.now c.skip_blanks.result.now _
      c.more.invariant.1 c.skip_blanks-end.ensures.blanks c.in-Some-after.ensures.mark
      c.skip_blanks.ensures.blanks c.in_ok-next.ensures.selector),
  omega (
    arith,
    c.in_ok-next.ensures.shorter,
    c.skip_blanks.ensures.shorter,
    c.in-Some-after.ensures.shorter,
    c.skip_blanks-end.ensures.shorter,
    c.more.invariant.2,
  ),
)
