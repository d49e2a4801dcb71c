use Rattle.std.proofs.Common.{◌∷◌, [], flat_map, take}
use Rattle.simd_json.specs.Viewed.{doc}
use Rattle.programs.specs.Cells.{after_mark}
use Rattle.simd_json_parts.specs.Bytes.{tab}
use Rattle.log_report.specs.Rows.{Extends, column}
use Rattle.log_report.proofs.rows.append_others.Given as goal

abbrev pub invariant-loop-selector : goal.invariant-loop-selector
invariant-loop-selector l =
    Extends l.fn.row.items l.row.items (flat_map (after_mark (tab ∷ []) (column l.wanted (doc l.value)))
    (take l.selector-index l.selectors))
