use Rattle.std.proofs.Common.{◌∙◌, ◌++◌, ◌∷◌, [], ap, sym, subst, flat_map}
use Rattle.simd_json.specs.Viewed.{doc}
use Rattle.programs.specs.Cells.{after_mark, cells}
use Rattle.simd_json_parts.specs.Bytes.{tab}
use Rattle.log_report.specs.Rows.{Extends, cell, column}
use Rattle.log_report.proofs.Cuts.{extends-then, on-ok}
use Rattle.log_report.proofs.rows.append_row.Goals as goal

pub returns : goal.returns
returns c =
    let w = c.args.wanted.now in
    let d = doc c.args.value in
    let row = c.args.row.now.items in
    let rows = c.append_others.new.row.items in
    let rest = flat_map (after_mark (tab ∷ []) (column w d)) c.in-Some.rest.now in
    on-ok c.append_others.result _ _ (λ others.
    subst (λ us. Extends row rows us)
    (ap (λ o. cell w o ++ rest) c.select.ensures ∙ ap (cells (tab ∷ []) (column w d)) (sym c.in-Some.ensures.cases.0))
    (extends-then row c.append_cell.new.row.items rows _ rest c.in_ok-append_cell.ensures others)) c.append_others.ensures
