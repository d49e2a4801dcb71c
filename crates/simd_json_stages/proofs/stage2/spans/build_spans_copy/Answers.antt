use Rattle.std.proofs.Common.{◌≡◌, ◌∙◌, ap, eq-eqb, eqb-true, false, not, subst, sym, true, length, arith}
use Rattle.std.specs.List.{All}
use Rattle.simd_json_stages.specs.EscapesAhead.{AreAhead}
use Rattle.simd_json_stages.specs.Placed.{LiesIn}
use Rattle.simd_json_stages.proofs.Machine.BetweenBlocks.{plain-to_first}
use Rattle.simd_json_stages.proofs.Machine.TextsInPlace.{laid-in}
use Rattle.simd_json_stages.proofs.stage2.spans.build_spans_copy.Goals as goal

pub build-requires-clause-route : goal.build-requires-clause-route
build-requires-clause-route g c =
    let copy = c.requires.copy in
    record {
      end = omega (arith, ap length c.requires.input);
      positions = copy.positions;
      whole = copy.whole;
      closes = λ t. copy.closes (λ any. let clash : false ≡ true = sym (ap not (eq-eqb _ _ any)) ∙ t in cc);
    }

pub build-requires-clause-reads : goal.build-requires-clause-reads
build-requires-clause-reads g c =
    let b = g.K.Original.bytes in
    record {
      fits = omega (arith, ap length c.requires.input);
      size = ap length c.requires.input;
      rest = c.requires.input;
      before = omega arith;
      plain = λ t. c.requires.copy.plain (eqb-true _ _ t);
      ahead = λ _. subst (λ e. AreAhead b e 0) (sym c.new.ensures) (record {
        passed = record { blocks = c.requires.scanned.escapes; within = omega arith; plain = plain-to_first b };
        plain = λ j f t. omega (arith, f, t);
      });
    }

pub returns-clause-texts : goal.returns-clause-texts
returns-clause-texts g c =
    let same = c.build.ensures.sink.1 in
    let placed = g.S.SpanSink.placed in
    subst (λ us. All (LiesIn us) (placed c.nodes-1.given.0)) (sym (c.input-1.given.1.1 (sym (ap (λ names. names.0) same))))
    (subst (λ sink. All (LiesIn c.build.new.builder.bytes.now) (placed sink)) (sym (c.nodes-1.given.1 (sym (ap (λ names. names.1) same))))
    (laid-in c.build.new.builder.laid))
