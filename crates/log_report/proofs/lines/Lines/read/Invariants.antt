use Rattle.std.proofs.Common.{◌≡◌, false}
use Rattle.log_report.proofs.Counting.{IsAt}
use Rattle.log_report.proofs.lines.Lines.read.Given as goal

abbrev pub invariant-loop : goal.invariant-loop
invariant-loop g l = record {
  reader : l.reader.failed ≡ false;
  err : l.err.failed ≡ false;
  counted : IsAt g.E.Write.contents l.fn.self l.self l.lines l.line.items (g.R.Read.remaining l.fn.reader.inner)
      (g.R.Read.remaining l.reader.inner) l.fn.err l.err l.file;
}
