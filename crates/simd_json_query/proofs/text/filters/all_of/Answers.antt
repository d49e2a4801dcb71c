use Rattle.std.proofs.Common.{arith}
use Rattle.std.proofs.lemmas.List.{nil_from_length}
use Rattle.simd_json_query.proofs.Tests.{and-last, and-step}
use Rattle.simd_json_query.proofs.text.filters.all_of.Goals as goal

pub operands-preserved : goal.operands-preserved
operands-preserved g c nesting text between rest operands last =
    let (m, before, test) = c.operands.invariant nesting text between rest operands last in
    and-step nesting c.operands.before.items c.pop.new.self.items c.in-Some.first c.operands.test _ _ _ _ text m rest
    c.in-Some.ensures.items c.in_ok-try_alloc.ensures c.in_ok-try_alloc-2.ensures before test

pub returns : goal.returns
returns g c nesting text between rest operands last =
    let (m, before, test) = c.operands.invariant nesting text between rest operands last in
    and-last nesting c.operands.before.items c.operands.test text m rest
    (nil_from_length c.operands.before.items (omega (arith, c.in_default.ensures.cases.0, c.operands.before.ok.0))) before test
