use Rattle.std.proofs.Common.{◌≡◌, ◌^◌, ◌-◌, false}
use Rattle.jcheck.proofs.Streams.{AreDone}
use Rattle.jcheck.proofs.lines.put_lines.Given as goal

abbrev pub invariant-loop : goal.invariant-loop
invariant-loop g l = record {
  depth : l.checker.depth ≡ l.fn.checker.depth;
  file : l.reports.place.file.now ≡ l.file;
  style : l.reports.style ≡ l.fn.style;
  reader : l.reader.failed ≡ false;
  done : AreDone l.file l.fn.style l.fn.checker.depth g.T.Target.state l.fn.text (2 ^ 64 - 1) (g.R.Read.remaining l.fn.reader.inner) l.text
      l.reports l.lines l.line.items (g.R.Read.remaining l.reader.inner);
}
