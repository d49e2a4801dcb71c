use Rattle.std.proofs.Common.{◌<◌, length, arith, rules}
use Rattle.simd_json_query.specs.Filters.{PlainSegment}
use Rattle.simd_json_query.specs.Segments.{Opening}
use Rattle.simd_json_query.proofs.Found.{found-some}
use Rattle.simd_json_query.proofs.Lists.{segments-more}
use Rattle.simd_json_query.proofs.text.plain.segments.Goals as goal

pub segments-preserved : goal.segments-preserved
segments-preserved g c =
    let begin = c.skip_blanks.result.now in
    let opening = found-some (λ r. Opening r.0 r.1 begin r.2.now) _ _ c.in-Some.is c.in_ok-is_descendant.ensures.opening in
    let shorter = found-some (λ r. length r.2.now < length begin) _ _ c.in-Some.is c.in_ok-is_descendant.ensures.shorter in (
      search rules,
      rw c.in_ok-push.ensures.items
          (segments-more PlainSegment _ _ _ _ begin _ _ c.segments.invariant.1 c.skip_blanks.ensures.blanks
          (c.in_ok-selectors.ensures.held c.in-Some.is_descendant begin opening) c.in_ok-steps.ensures.steps),
      omega (
        arith,
        shorter,
        c.skip_blanks.ensures.shorter,
        c.in_ok-selectors.ensures.shorter,
        c.in_ok-steps.ensures.shorter,
        c.segments.invariant.2,
      ),
    )
