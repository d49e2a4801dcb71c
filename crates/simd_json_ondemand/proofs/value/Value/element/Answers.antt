use Rattle.std.proofs.Common.{sym, ◌∙◌, ap}
use Rattle.simd_json_ondemand.specs.Stopped.{error_at}
use Rattle.simd_json_ondemand.specs.Walks.{first, walk_past}
use Rattle.simd_json_ondemand.proofs.Walks.{past-stopped}
use Rattle.simd_json_ondemand.proofs.value.Value.element.Goals as goal

pub returns-in-Err-clause-walk : goal.returns-in-Err-clause-walk
returns-in-Err-clause-walk c =
    let i = c.args.index in
    sym (ap (λ w. first (walk_past i w)) c.in-Err.ensures.walk ∙ ap first (past-stopped i (error_at c.in-Err.stop)))

pub returns-in-Err-clause-site : goal.returns-in-Err-clause-site
returns-in-Err-clause-site c =
    let i = c.args.index in
    sym (ap (λ w. first (walk_past i w)) c.in-Err.ensures.sites ∙ ap first (past-stopped i (error_at c.in-Err.stop)))
