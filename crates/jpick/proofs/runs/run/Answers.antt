use Rattle.std.proofs.Common.{◌≡◌, rules, subst}
use Rattle.std.specs.Prelude.{IfOk}
use Rattle.programs.proofs.Calls.{failed-as, mapped}
use Rattle.programs.specs.declared.failure.Failure.TheVariants.{Resources}
use Rattle.jpick.specs.Picked.{no_line}
use Rattle.jpick.specs.Putting.{Knows}
use Rattle.jpick.proofs.Ended.{nothing-taken}
use Rattle.jpick.proofs.runs.run.Goals as goal

pub returns-in_err-picker : goal.returns-in_err-picker
returns-in_err-picker g c =
    let failed = failed-as c.new.result c.map_err.result _ (λ e. e ≡ Resources) _ c.map_err.ensures.cases c.in_err-picker.was
    (λ e d h. search rules) in
    nothing-taken _ _ _ _ _ _ _ _ c.from_residual.result _ c.from_residual.ensures.1 failed.0 c.requires.reader c.requires.out
    c.requires.rejections

pub returns : goal.returns
returns g c =
    c.write_rows.ensures c.args.wanted.now c.args.file.now (subst (λ r. IfOk r (λ picker. Knows picker c.args.wanted.now c.args.file.now no_line))
    (mapped c.new.result c.map_err.result c.in_ok-picker.picker _ c.map_err.ensures.cases c.in_ok-picker.was) c.new.ensures)
