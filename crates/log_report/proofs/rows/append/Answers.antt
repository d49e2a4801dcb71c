use Rattle.log_report.proofs.Cuts.{extends-write}
use Rattle.log_report.proofs.rows.append.Goals as goal

pub returns : goal.returns
returns c = extends-write c.args.row.now.items _ c.args.bytes.now c.write-fits.result c.write-fits.ensures.count c.write-fits.ensures.bytes
