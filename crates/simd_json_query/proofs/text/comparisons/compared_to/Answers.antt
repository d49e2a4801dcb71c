use Rattle.simd_json_query.specs.Filters.{Nested}
use Rattle.simd_json_query.proofs.Tests.{compare-basic}
use Rattle.simd_json_query.proofs.text.comparisons.compared_to.Goals as goal

pub returns-clause-test : goal.returns-clause-test
returns-clause-test g c text begun =
    compare-basic (Nested c.args.nesting) c.args.left c.in_ok-right.right c.args.comparison text _ _ _ begun
    c.skip_blanks-begin.ensures.blanks c.in_ok-right.ensures.comparable
