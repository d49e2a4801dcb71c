use Rattle.std.proofs.Common.{◌-◌, suc, ap, arith}
use Rattle.std.proofs.lemmas.List.{take_rest}
use Rattle.memchr.specs.Find.{is_byte}
use Rattle.simd_json_stages.proofs.Machine.EscapesPassed.{plain-ahead}
use Rattle.simd_json_stages.proofs.stage2.escapes.next_backslash.Goals as goal

pub returns-in-Some : goal.returns-in-Some
returns-in-Some c b is passed =
    let p = c.passed-next.ensures b passed in (
      p,
      plain-ahead b c.args.rest.now _ c.args.blocks.now c.args.at c.args.at c.passed-next.result c.start.result c.min-from.result
          c.in-Some.plain is (omega arith) p c.start.ensures (omega (arith, c.max.ensures, c.min-from.ensures))
          (omega (arith, c.min-from.ensures)) (λ l. omega (arith, l, c.max.ensures, c.min-from.ensures))
          (take_rest c.args.rest.now (c.min-from.result - c.args.at))
          (λ k l s e. c.in-Some.ensures.0.before k (omega arith) l (ap (is_byte 92) e)),
    )

pub returns-in-None : goal.returns-in-None
returns-in-None c b is passed =
    let p = c.passed-next.ensures b passed in (
      p,
      λ j f t. plain-ahead b c.args.rest.now _ c.args.blocks.now c.args.at c.args.at c.passed-next.result c.start.result
          c.min-from.result (suc j) is (omega arith) p c.start.ensures
          (omega (arith, c.max.ensures, c.min-from.ensures))
          (omega (arith, c.min-from.ensures)) (λ l. omega (arith, l, c.max.ensures, c.min-from.ensures))
          (take_rest c.args.rest.now (c.min-from.result - c.args.at))
          (λ k l s e. c.in-None.ensures k (omega arith) s (ap (is_byte 92) e)) j f (omega arith),
    )
