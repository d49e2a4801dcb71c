use Rattle.std.proofs.Common.{◌≡◌, ◌-◌, suc, arith, rules}
use Rattle.std.specs.Prelude.{codes}
use Rattle.simd_json_query.specs.Filters.{Basic, Conjunction, Nested}
use Rattle.simd_json_query.proofs.Operands.{operands-more}
use Rattle.simd_json_query.proofs.Tests.{nested-more}
use Rattle.simd_json_query.proofs.text.filters.+tests.Goals as goal

pub conjunction-operands-preserved : goal.conjunction-operands-preserved
conjunction-operands-preserved g t c =
    let (utf8, (m, read, operand), short) = c.operands.invariant in (
      search rules,
      (
        c.skip_blanks-in-Some.result.now,
        rw c.in_ok-push.ensures.items
            (operands-more (Basic (Nested c.args.nesting)) (codes "&&") c.operands.before.items c.operands.last _ m _ _ _ _ read operand
            c.skip_blanks.ensures.blanks c.in-Some.ensures.word c.skip_blanks-in-Some.ensures.blanks),
        c.in_ok-next.ensures.test,
      ),
      omega (
        arith,
        c.in_ok-next.ensures.shorter,
        c.skip_blanks-in-Some.ensures.shorter,
        c.in-Some.ensures.shorter,
        c.skip_blanks.ensures.shorter,
        short,
      ),
    )

pub logical-operands-preserved : goal.logical-operands-preserved
logical-operands-preserved g t c =
    let (utf8, (m, read, operand), short) = c.operands.invariant in (
      search rules,
      (
        c.skip_blanks-in-Some.result.now,
        rw c.in_ok-push.ensures.items
            (operands-more (Conjunction (Nested c.args.nesting)) (codes "||") c.operands.before.items c.operands.last _ m _ _ _ _ read
            operand c.skip_blanks.ensures.blanks c.in-Some.ensures.word c.skip_blanks-in-Some.ensures.blanks),
        c.in_ok-next.ensures.test,
      ),
      omega (
        arith,
        c.in_ok-next.ensures.shorter,
        c.skip_blanks-in-Some.ensures.shorter,
        c.in-Some.ensures.shorter,
        c.skip_blanks.ensures.shorter,
        short,
      ),
    )

pub nested-returns-clause-test : goal.nested-returns-clause-test
nested-returns-clause-test g t c =
    let same : c.args.nesting ≡ suc (c.args.nesting - 1) = omega (arith, c.if-nesting-eq0.false) in
    nested-more c.args.nesting (c.args.nesting - 1) c.in_ok-test.test c.args.rest.now c.args.others.now _ _ _ same (search rules)
    c.skip_blanks.ensures.blanks c.in_ok-test.ensures.test c.in_ok-closed.ensures.closed
