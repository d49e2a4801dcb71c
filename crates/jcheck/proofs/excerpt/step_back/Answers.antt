use Rattle.std.proofs.Common.{arith, sym, subst, ◌<◌, drop, add-one}
use Rattle.jcheck.specs.Excerpts.{characters}
use Rattle.jcheck.proofs.Characters.{last-from}
use Rattle.jcheck.proofs.excerpt.step_back.Goals as goal

pub returns-else-count-most-clause-left : goal.returns-else-count-most-clause-left
returns-else-count-most-clause-left c =
    let start = c.loop-start.start in
    let bytes = c.args.bytes.now in
    sym (last-from c.args.most bytes start (λ _. omega arith)
    (λ h. subst (λ k. characters (drop k bytes) < c.args.most) (add-one start) (c.loop-start.invariant.few h)))
