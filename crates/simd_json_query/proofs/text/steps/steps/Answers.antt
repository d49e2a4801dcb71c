use Rattle.std.proofs.Common.{◌<◌, length, arith, rules}
use Rattle.simd_json_query.specs.Steps.{StepText}
use Rattle.simd_json_query.proofs.Found.{found-some}
use Rattle.simd_json_query.proofs.Lists.{steps-more}
use Rattle.simd_json_query.proofs.text.steps.steps.Goals as goal

pub steps-preserved : goal.steps-preserved
steps-preserved g c =
    let begin = c.skip_blanks.result.now in
    let step = found-some (λ r. StepText r.0 begin r.1.now) _ _ c.in-Some.is c.in_ok-step.ensures.step in
    let shorter = found-some (λ r. length r.1.now < length begin) _ _ c.in-Some.is c.in_ok-step.ensures.shorter in (
      search rules,
      rw c.in_ok-push.ensures.items
          (steps-more _ _ _ _ begin _ c.steps.invariant.1 c.skip_blanks.ensures.blanks step),
      omega (arith, shorter, c.skip_blanks.ensures.shorter, c.steps.invariant.2),
    )
