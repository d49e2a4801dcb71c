use Rattle.jpick.proofs.Putting.{begun-none, puts-err}
use Rattle.jpick.proofs.rows.put_by_many.Goals as goal

pub returns-in_err-resize : goal.returns-in_err-resize
returns-in_err-resize g c = puts-err _ c.from_residual.result _ _ _ _ c.from_residual.ensures.1 (begun-none _ _ _)
