use Rattle.std.proofs.Common.{ap, flat_map, sym}
use Rattle.std.specs.Prelude.{option_map}
use Rattle.programs.specs.Cells.{after_mark, cells}
use Rattle.simd_json.specs.Viewed.{doc}
use Rattle.simd_json_print.proofs.Texts.{adds-is, adds-none}
use Rattle.jpick.specs.Rows.{cell_at, mark_of}
use Rattle.jpick.proofs.Arrays.{no-cells}
use Rattle.jpick.proofs.Putting.{begun-is, begun-more, puts-err, puts-is, puts-then}
use Rattle.jpick.proofs.rows.put_cells.Goals as goal

pub returns-in_default : goal.returns-in_default
returns-in_default g c =
    let w = c.args.wanted.now in
    adds-is _ _ _ _ _ (no-cells (mark_of w.layout) (cell_at w (option_map doc c.args.value)) w.queries.now c.in_default.ensures.cases)
    (adds-none _ _)

pub returns-in_err-put_cell_at : goal.returns-in_err-put_cell_at
returns-in_err-put_cell_at g c =
    let w = c.args.wanted.now in
    let cell = cell_at w (option_map doc c.args.value) in
    puts-err _ c.from_residual.result _ _ _ _ c.from_residual.ensures.1
    (begun-is _ _ _ _ _ (ap (cells (mark_of w.layout) cell) (sym c.in-Some.ensures.cases.0))
    (begun-more _ _ _ _ (flat_map (after_mark (mark_of w.layout) cell) c.in-Some.rest.now) c.in_err-put_cell_at.ensures))

pub returns : goal.returns
returns g c =
    let w = c.args.wanted.now in
    let cell = cell_at w (option_map doc c.args.value) in
    puts-is _ _ _ _ _ _ (ap (cells (mark_of w.layout) cell) (sym c.in-Some.ensures.cases.0))
    (puts-then _ c.put_others.result _ _ _ _ _ c.in_ok-put_cell_at.ensures c.put_others.ensures)
