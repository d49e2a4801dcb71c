use Rattle.std.proofs.Common.{◌∷◌, [], ap, arith}
use Rattle.std.specs.Prelude.{option_map}
use Rattle.simd_json.specs.Viewed.{doc}
use Rattle.simd_json_parts.specs.Bytes.{tab}
use Rattle.programs.specs.Cells.{after_mark}
use Rattle.log_report.specs.Rows.{cell, column}
use Rattle.log_report.proofs.Cuts.{extends-all, extends-more, extends-none, extends-then}
use Rattle.log_report.proofs.rows.append_others.Goals as goal

pub loop-selector-init : goal.loop-selector-init
loop-selector-init c = extends-none _

pub loop-selector-preserved : goal.loop-selector-preserved
loop-selector-preserved c =
    let w = c.args.wanted.now in
    let d = doc c.args.value in
    extends-more (after_mark (tab ∷ []) (column w d)) c.args.selectors.now c.loop-selector.selector-index _
    c.args.row.now.items c.loop-selector.row.items
    c.append_cell.new.row.items (tab ∷ cell w (option_map doc c.select.result)) c.loop-selector-test.true c.loop-selector.invariant
    (extends-then c.loop-selector.row.items c.append.new.row.items c.append_cell.new.row.items (tab ∷ []) _ c.append.ensures
    c.in_ok-append_cell.ensures)
    (ap (λ o. tab ∷ cell w o) c.select.ensures)

pub returns : goal.returns
returns c =
    extends-all (after_mark (tab ∷ []) (column c.args.wanted.now
    (doc c.args.value))) c.args.selectors.now c.loop-selector.selector-index _ _ (omega arith)
    c.loop-selector.invariant
