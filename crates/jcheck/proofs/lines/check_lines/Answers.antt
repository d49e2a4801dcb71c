use Rattle.std.proofs.Common.{◌≡◌, ◌∙◌, ap, refl, rules, sym, true}
use Rattle.std.proofs.lemmas.Result.{err_from_is_err_and}
use Rattle.programs.proofs.Calls.{failed-as}
use Rattle.jcheck.specs.Failures.{is_of_output}
use Rattle.jcheck.proofs.Written.{lines-checked, lines-failed, lines-sound, lines-stopped, unread-none, unread-stopped}
use Rattle.jcheck.proofs.lines.check_lines.Goals as goal

pub returns-then-failed-clause-stopped : goal.returns-then-failed-clause-stopped
returns-then-failed-clause-stopped g c =
    let stopped =
    unread-stopped _ _ _ _ _ _ _ _ _ _ _ _ _ c.put_lines-put.result (sym c.failed.ensures ∙ c.if-failed.true) c.requires.out
    c.new-text.ensures.empty refl c.put_lines-put.ensures.stopped in
    search rules

pub returns-then-failed-clause-checked : goal.returns-then-failed-clause-checked
returns-then-failed-clause-checked g c =
    unread-none _ _ _ _ _ _ _ _ _ _ c.put_lines-put.result (sym c.failed.ensures ∙ c.if-failed.true) c.put_lines-put.ensures.put

pub returns-then-failed-clause-sound : goal.returns-then-failed-clause-sound
returns-then-failed-clause-sound g c =
    unread-none _ _ _ _ _ _ _ _ _ _ c.put_lines-put.result (sym c.failed.ensures ∙ c.if-failed.true) c.put_lines-put.ensures.put

pub returns-in_err-map_err-clause-stopped : goal.returns-in_err-map_err-clause-stopped
returns-in_err-map_err-clause-stopped g c =
    let p = err_from_is_err_and c.from_residual.result c.from_residual.ensures.1 in
    let failed = failed-as c.finish.result c.map_err.result _ (λ e. is_of_output e ≡ true) _ c.map_err.ensures.cases c.in_err-map_err.was
    (λ e d h. search rules) in
    let stopped =
    lines-failed _ _ _ _ _ _ _ _ _ _ _ _ _ c.finish.result c.put_lines-put.result p.0 (ap is_of_output p.2 ∙ failed.0) failed.1
    (sym c.failed.ensures ∙ c.if-failed.false) c.new-text.ensures.empty c.finish.ensures c.put_lines-put.ensures.put
    c.put_lines-put.ensures.stopped in
    rw p.1 (search rules)

pub returns-clause-checked : goal.returns-clause-checked
returns-clause-checked g c =
    let checked =
    lines-checked _ _ _ _ _ _ _ _ _ _ _ _ _ c.finish.result c.put_lines-put.result (search rules) c.requires.out
    c.new-text.ensures.empty c.finish.ensures c.put_lines-put.ensures.put in
    search rules

pub returns-clause-sound : goal.returns-clause-sound
returns-clause-sound g c =
    let sound =
    lines-sound _ _ _ _ _ _ _ _ _ _ _ _ _ c.finish.result c.put_lines-put.result (search rules) c.requires.out
    c.new-text.ensures.empty c.finish.ensures c.put_lines-put.ensures.put in
    search rules

pub returns-clause-stopped : goal.returns-clause-stopped
returns-clause-stopped g c =
    let stopped =
    lines-stopped _ _ _ _ _ _ _ _ _ _ _ _ _ c.finish.result c.put_lines-put.result (search rules) c.requires.out
    c.new-text.ensures.empty c.finish.ensures c.put_lines-put.ensures.stopped in
    search rules
