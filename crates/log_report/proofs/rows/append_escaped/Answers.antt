use Rattle.std.proofs.Common.{◌∙◌, ap, arith, refl}
use Rattle.std.proofs.lemmas.List.{get_or_default}
use Rattle.log_report.specs.Rows.{tsv_byte}
use Rattle.log_report.proofs.Cuts.{escape-is, extends-all, extends-more, extends-none}
use Rattle.log_report.proofs.rows.append_escaped.Goals as goal

pub loop-byte-init : goal.loop-byte-init
loop-byte-init c = extends-none _

pub loop-byte-preserved : goal.loop-byte-preserved
loop-byte-preserved c =
    let text = c.args.text.now in
    let i = c.loop-byte.byte-index in
    extends-more tsv_byte text i 0 c.args.row.now.items c.loop-byte.row.items c.append.new.row.items c.unwrap_or.result.now
    c.loop-byte-test.true c.loop-byte.invariant c.append.ensures
    (escape-is _ c.tsv_escape.result _ c.unwrap_or.result c.tsv_escape.ensures refl c.unwrap_or.ensures
    ∙ ap tsv_byte (get_or_default text i _ 0 c.loop-byte-test.true))

pub returns : goal.returns
returns c = extends-all tsv_byte c.args.text.now c.loop-byte.byte-index _ _ (omega arith) c.loop-byte.invariant
