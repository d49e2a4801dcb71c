use Rattle.std.proofs.Common.{ap, length, subst, sym, arith}
use Rattle.simd_json_stages.proofs.Machine.BetweenBlocks.{plain-to_first}
use Rattle.simd_json_stages.specs.EscapesAhead.{AreAhead}
use Rattle.simd_json_stages.proofs.stage2.input.Unread.with_escapes.Goals as goal

pub returns : goal.returns
returns c b is blocks = record {
  fits = omega (arith, ap length is);
  end = ap length is;
  whole = λ t. cc t;
  part = λ _. record {
    rest = is;
    before = omega arith;
    ahead = subst (λ e. AreAhead b e 0) (sym c.new.ensures) (record {
      passed = record { blocks = blocks; within = omega arith; plain = plain-to_first b };
      plain = λ j f t. omega (arith, f, t);
    });
  };
}
