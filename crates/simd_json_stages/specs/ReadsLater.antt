-- What can be read of an input from one index on can be read from a later one. A law of the crate rests on it.
use Rattle.std.proofs.Common.{◌≤◌, ℕ, List, arith}
use Rattle.simd_json_stages.specs.EscapesAhead.{AreAhead}
use Rattle.simd_json_stages.specs.Inputs.{IsLent, Reads}
use Rattle.simd_json_stages.specs.declared.stage2.escapes.Escapes.{Escapes}
use Rattle.simd_json_stages.specs.declared.stage2.input.Unread.{Unread}

pub ahead-later : (b : List ℕ) (e : Escapes) (at : ℕ) → AreAhead b e at → (later : ℕ) → at ≤ later → AreAhead b e later
ahead-later b e at a later l =
    record {
      passed = record {
        blocks = a.passed.blocks;
        within = a.passed.within;
        plain = λ j f t. a.passed.plain j (omega arith) t;
      };
      plain = λ j f t. a.plain j (omega arith) t;
    }

pub reads-kept : (b : List ℕ) (t : Unread) (i j : ℕ) → Reads b t i → i ≤ j → Reads b t j
reads-kept b t i j h l =
    record {
      fits = h.fits;
      end = h.end;
      whole = h.whole;
      part = λ lent. let p : IsLent b t.rest.now t.at t.escapes i = h.part lent in
          record { rest = p.rest; before = omega (arith, p.before); ahead = ahead-later b t.escapes i p.ahead j l };
    }
