use Rattle.std.proofs.Common.{List, ℕ}
use Rattle.simd_json_parts.specs.Bytes.{left_bracket}
use Rattle.simd_json_query.specs.Spans.{Mark}
use Rattle.simd_json_query.specs.Steps.{StepText, dot}
use Rattle.simd_json_query.proofs.Found.{found-is}
use Rattle.simd_json_query.proofs.text.steps.step.Goals as goal

pub returns-in-Some-clause-step : goal.returns-in-Some-clause-step
returns-in-Some-clause-step g c =
    found-is (λ r. (text : List ℕ) → Mark left_bracket text c.in-Some.others.now → StepText r.0 text r.1.now)
    (λ r. StepText r.0 c.args.rest.now r.1.now) _ (λ r said. said c.args.rest.now c.in-Some.ensures.mark) c.in_brackets.ensures.step

pub returns-in-Some-after-clause-step : goal.returns-in-Some-after-clause-step
returns-in-Some-after-clause-step g c =
    found-is (λ r. (text : List ℕ) → Mark dot text c.in-Some-after.others.now → StepText r.0 text r.1.now)
    (λ r. StepText r.0 c.args.rest.now r.1.now) _ (λ r said. said c.args.rest.now c.in-Some-after.ensures.mark) c.member.ensures.step
