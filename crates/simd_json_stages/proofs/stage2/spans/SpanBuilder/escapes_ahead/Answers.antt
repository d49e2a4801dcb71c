use Rattle.std.proofs.Common.{◌∙◌, sym, arith}
use Rattle.std.proofs.lemmas.Grind.{common_steps}
use Rattle.std.specs.Prelude.{IsFalse, nat_lt}
use Rattle.std.proofs.lemmas.List.{take_rest}
use Rattle.simd_json_stages.proofs.Machine.TextsInPlace.{place-drop}
use Rattle.simd_json_stages.proofs.stage2.spans.SpanBuilder.escapes_ahead.Goals as goal

pub returns-in-Some-clause-reads : goal.returns-in-Some-clause-reads
returns-in-Some-clause-reads g c b reads = record {
  fits = reads.fits;
  size = reads.size;
  rest = reads.rest;
  before = reads.before;
  plain = reads.plain;
  ahead = λ lent. c.in-Some.ensures b
      (sym (take_rest c.args.self.now.bytes.now c.args.at ∙ place-drop reads c.args.at reads.before)) (reads.ahead lent);
}

pub returns-in-Some-clause-plain : goal.returns-in-Some-clause-plain
returns-in-Some-clause-plain g c none b reads j f t =
    let far : IsFalse (nat_lt c.in-Some.escapes.mark c.args.end) = none in
    let ahead = c.in-Some.ensures b
    (sym (take_rest c.args.self.now.bytes.now c.args.at ∙ place-drop reads c.args.at reads.before)) (reads.ahead c.if-self.false) in
    ahead.plain j f (grind (arith, common_steps, far, t))
