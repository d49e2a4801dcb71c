use Rattle.simd_json_print.proofs.Texts.{adds-is, adds-then}
use Rattle.jpick.proofs.Putting.{begun-more, begun-then, puts-err}
use Rattle.jpick.proofs.rows.put_value_row.Goals as goal

pub returns-in_err-put_value : goal.returns-in_err-put_value
returns-in_err-put_value g c =
    puts-err _ c.from_residual.result _ _ _ _ c.from_residual.ensures.1
    (begun-more _ _ _ _ _ (begun-then _ _ _ _ _ _ (adds-is _ _ _ _ _ c.marks.ensures.opening c.put.ensures) c.in_err-put_value.ensures))

pub returns : goal.returns
returns g c =
    adds-then _ _ _ _ _ _
    (adds-then _ _ _ _ _ _ (adds-is _ _ _ _ _ c.marks.ensures.opening c.put.ensures) c.in_ok-put_value.ensures)
    (adds-is _ _ _ _ _ c.marks.ensures.closing c.put-2.ensures)
