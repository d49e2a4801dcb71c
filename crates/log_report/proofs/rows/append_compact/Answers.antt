use Rattle.std.proofs.Common.{◌∙◌, ap, eqb-true, sym, take}
use Rattle.simd_json.specs.Viewed.{doc}
use Rattle.simd_json_parts.specs.Printed.{compact}
use Rattle.log_report.specs.Rows.{most_bytes}
use Rattle.log_report.proofs.Cuts.{extends-full}
use Rattle.log_report.proofs.rows.append_compact.Goals as goal

pub returns-in-Ok : goal.returns-in-Ok
returns-in-Ok c = ap (take most_bytes) c.in-Ok.ensures.written

pub returns-in-Err : goal.returns-in-Err
returns-in-Err c =
    extends-full c.args.row.now.items c.write.new.w.items (compact (doc c.args.value)) c.in-Err.ensures.begun.0 c.in-Err.ensures.begun.1
    (eqb-true _ _ (sym c.is_full.ensures.value ∙ c.if-is_full.true))
