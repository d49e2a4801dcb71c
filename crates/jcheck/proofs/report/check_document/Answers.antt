use Rattle.std.proofs.Common.{◌≡◌, ◌∙◌, ap, rules, false, true}
use Rattle.std.proofs.lemmas.Result.{err_from_is_err_and}
use Rattle.programs.proofs.Calls.{failed-as}
use Rattle.jcheck.proofs.Written.{all-written, failed-written, nothing-put, part-written}
use Rattle.jcheck.proofs.report.check_document.Goals as goal
use Rattle.jcheck.specs.Failures.{is_of_output}
use Rattle.jcheck.specs.Reports.{whole_text}

pub returns-in_err-map_err-clause-stopped : goal.returns-in_err-map_err-clause-stopped
returns-in_err-map_err-clause-stopped g c =
    let p = err_from_is_err_and c.from_residual.result c.from_residual.ensures.1 in
    let failed = failed-as c.finish.result c.map_err.result _ (λ e. is_of_output e ≡ true) _ c.map_err.ensures.cases c.in_err-map_err.was
    (λ e d h. search rules) in
    let whole = whole_text c.args.file.now c.args.style c.args.checker.now.depth c.args.input.now in
    let put = c.check-put.ensures in
    let stopped =
    failed-written c.finish.result {old = c.args.out.now.failed} _ _ c.check-put.result whole p.0
    (ap is_of_output p.2 ∙ failed.0) failed.1 c.new-text.ensures.empty put.put put.none c.finish.ensures in
    rw p.1 (search rules)

pub returns-in_err-put-clause-stopped : goal.returns-in_err-put-clause-stopped
returns-in_err-put-clause-stopped g c =
    let p = err_from_is_err_and c.from_residual-in_err-put.result c.from_residual-in_err-put.ensures.1 in
    let whole = whole_text c.args.file.now c.args.style c.args.checker.now.depth c.args.input.now in
    let stopped =
    part-written c.finish.result {old = c.args.out.now.failed} _ _ false whole p.0 p.2.0 (λ _. p.2) (search rules) c.requires
    c.new-text.ensures.empty (nothing-put whole c.in_err-put.ensures.none) c.finish.ensures in
    rw p.1 (search rules)

pub returns-clause-written : goal.returns-clause-written
returns-clause-written g c =
    let whole = whole_text c.args.file.now c.args.style c.args.checker.now.depth c.args.input.now in
    let written =
    all-written c.finish.result {old = c.args.out.now.failed} _ _ whole (search rules) c.requires c.new-text.ensures.empty
    c.in_ok-put.ensures.put c.finish.ensures in
    search rules
