use Rattle.std.proofs.Common.{List, ℕ, Bool}
use Rattle.simd_json_parts.specs.Bytes.{left_bracket}
use Rattle.simd_json_query.specs.Choices.{ChoiceText}
use Rattle.simd_json_query.specs.Filters.{PlainSegment}
use Rattle.simd_json_query.specs.Segments.{Opening, Selection}
use Rattle.simd_json_query.specs.Spans.{Mark}
use Rattle.simd_json_query.proofs.Found.{ok-is}
use Rattle.simd_json_query.proofs.Openings.{opened-brackets, opened-member}
use Rattle.simd_json_query.proofs.text.plain.held.Goals as goal

pub returns-in_ok-try_alloc_slice_copy-in-Some-clause-held : goal.returns-in_ok-try_alloc_slice_copy-in-Some-clause-held
returns-in_ok-try_alloc_slice_copy-in-Some-clause-held g c is_descendant text opening =
    opened-member ChoiceText (λ c. c) is_descendant c.args.member c.in-Some.choice text _ _
    c.in-Some.is c.in_ok-try_alloc_slice_copy-in-Some.ensures opening

pub returns-in-None-clause-held : goal.returns-in-None-clause-held
returns-in-None-clause-held g c =
    let rest = c.args.rest.now in
    ok-is (λ r. (text : List ℕ) → Mark left_bracket text rest → Selection ChoiceText r.0.now text r.1.now)
    (λ r. (is_descendant : Bool) (text : List ℕ) → Opening is_descendant c.args.member text rest
    → PlainSegment is_descendant r.0.now text r.1.now)
    c.selection.result
    (λ r said is_descendant text opening.
    opened-brackets ChoiceText (λ c. c) is_descendant c.args.member text rest
    r.1.now r.0.now c.in-None.is opening said)
    c.selection.ensures.selection
