use Rattle.std.proofs.Common.{◌≡◌, ◌∙◌, ap, arith, eq-eqb, false, length, not, sym, true}
use Rattle.simd_json_stages.proofs.stage2.machine.build_copy.Goals as goal
use Rattle.simd_json_stages.proofs.stage2.machine.build_copy.Goals.{then-this-eq-PLAIN, else-this-eq-PLAIN}

pub build-requires-clause-route : goal.build-requires-clause-route
build-requires-clause-route g c =
    let copy = c.requires.copy in
    record {
      end = omega (arith, ap length c.requires.input);
      positions = copy.positions;
      whole = copy.whole;
      closes = λ t. copy.closes (λ any. let clash : false ≡ true = sym (ap not (eq-eqb _ _ any)) ∙ t in cc);
    }

pub build-requires-clause-reads : goal.build-requires-clause-reads
build-requires-clause-reads g c =
    let b = g.K.Original.bytes in
    let copy = c.requires.copy in
    elim c.if-this-eq-PLAIN.branch [
      | then-this-eq-PLAIN w ↦ rw w.input-is (w.plain-input.ensures b c.requires.input (copy.plain w.if-this-eq-PLAIN.true))
      | else-this-eq-PLAIN w ↦ rw w.input-is (w.with_escapes-input.ensures b c.requires.input c.requires.scanned.escapes)
    ]
