use Rattle.std.proofs.Common.{◌++◌, ◌∷◌, [], refl, subst, sym}
use Rattle.log_report.specs.Asked.{AreOf}
use Rattle.log_report.proofs.Named.{word-last}
use Rattle.log_report.proofs.options.push_word.Goals as goal

pub returns-clause-each : goal.returns-clause-each
returns-clause-each c = λ words keys are.
    subst (AreOf (words ++ c.args.word.now ∷ []) keys) (sym c.in_ok-push.ensures.items)
    (word-last words keys c.args.selectors.now.items c.args.word.now c.in_ok-selector.field-0 are
    (c.args.word, refl, c.in_ok-selector.ensures.selector))
