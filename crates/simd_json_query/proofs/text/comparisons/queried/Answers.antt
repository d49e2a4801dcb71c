use Rattle.std.proofs.Common.{◌∙◌, sym, List, ℕ, length}
use Rattle.std.proofs.lemmas.Bool.{eqb-true}
use Rattle.std.proofs.lemmas.List.{nil_from_length}
use Rattle.simd_json_query.specs.Filters.{Basic, ComparableText, Nested, OperatorText, SingularText}
use Rattle.simd_json_query.specs.Spans.{◌then◌}
use Rattle.simd_json_query.specs.Steps.{Blanks}
use Rattle.simd_json_query.specs.declared.filter.Comparable as comparable
use Rattle.simd_json_query.proofs.Found.{ok-is}
use Rattle.simd_json_query.proofs.Tests.{query-left}
use Rattle.simd_json_query.proofs.text.comparisons.queried.Goals as goal

pub returns-clause-test : goal.returns-clause-test
returns-clause-test g c =
    let query = c.in_ok-query.query in
    let op = c.in-Some.comparison in
    let none =
    nil_from_length query.segments.now (eqb-true (length query.segments.now) 0 (sym c.is_empty.ensures ∙ c.if-not-is_empty.false)) in
    ok-is (λ r. (text : List ℕ) → (ComparableText (comparable.Query query.start) then Blanks then OperatorText op) text c.in-Some.behind.now
    → Basic (Nested c.args.nesting) r.0 text r.1.now)
    (λ r. (text : List ℕ) → SingularText c.args.start text c.args.rest.now → Basic (Nested c.args.nesting) r.0 text r.1.now)
    c.compared_to.result
    (λ r said text start. said text
    (query-left query op text c.in_ok-query.others.now c.skip_blanks.result.now c.in-Some.behind.now
    (c.in_ok-query.ensures.query text start) none c.skip_blanks.ensures.blanks c.in-Some.ensures.operator))
    c.compared_to.ensures.test
