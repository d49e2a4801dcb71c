use Rattle.std.proofs.Common.{◌≡◌, ◌∙◌, ◌++◌, ap, sym, subst, take, Bool, false, ℕ, List, Option, Result, Ok, Err}
use Rattle.std.proofs.KnownBytes.{Consumes-nil, Consumes-trans}
use Rattle.std.specs.Io.KnownBytes.{Consumes}
use Rattle.std.specs.Prelude.{IsErrAnd, is_err}
use Rattle.programs.proofs.Calls.{or-false}
use Rattle.programs.specs.Failures.{read_fault}
use Rattle.programs.specs.Failures.{EndsRead}
use Rattle.programs.specs.declared.failure.Failure.{Failure}
use Rattle.programs.specs.declared.failure.Failure.TheVariants.{Resources}
use Rattle.programs.proofs.whole.read_all.Goals as goal

-- a want of memory that `?` hands on
short-of-memory : {T : Type 0} (r : Result T Failure) (failed : Bool) (before after : Option (List ℕ)) (P : T → Type 0)
    → IsErrAnd r (λ e. e ≡ Resources) → failed ≡ false → ((more : List ℕ) × Consumes before after more) → EndsRead failed before after P r
short-of-memory (Ok x) failed before after P is sound read = absurd is
short-of-memory (Err e) failed before after P is sound read = (is ∙ ap read_fault (sym sound), read.0, read.1)

pub loop-input-init : goal.loop-input-init
loop-input-init g c =
    record {
      read = subst (Consumes (g.R.Read.remaining c.args.reader.now.inner) (g.R.Read.remaining c.args.reader.now.inner))
          (sym c.new-input.ensures.items) (Consumes-nil _);
      sound = c.requires;
    }

pub returns-in_err-reserve-clause-bytes : goal.returns-in_err-reserve-clause-bytes
returns-in_err-reserve-clause-bytes g c =
    let input = c.loop-input.input.items in
    let more = take c.in-Ok.count c.read.new.buf in
    short-of-memory c.from_residual.result _ _ _ _ c.from_residual.ensures.1
    (c.read.ensures.failed ∙ or-false c.loop-input.reader.failed _ c.loop-input.invariant.sound (ap is_err c.in-Ok.is))
    (input ++ more, Consumes-trans _ _ _ input more c.loop-input.invariant.read c.in-Ok.ensures.bytes.0)

pub returns-in_err-extend_from_slice-clause-bytes : goal.returns-in_err-extend_from_slice-clause-bytes
returns-in_err-extend_from_slice-clause-bytes g c =
    let input = c.loop-input.input.items in
    let more = take c.in-Ok.count c.read.new.buf in
    short-of-memory c.from_residual-in_err-extend_from_slice.result _ _ _ _ c.from_residual-in_err-extend_from_slice.ensures.1
    (c.read.ensures.failed ∙ or-false c.loop-input.reader.failed _ c.loop-input.invariant.sound (ap is_err c.in-Ok.is))
    (input ++ more, Consumes-trans _ _ _ input more c.loop-input.invariant.read c.in-Ok.ensures.bytes.0)
