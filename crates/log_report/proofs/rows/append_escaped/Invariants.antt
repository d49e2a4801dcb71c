use Rattle.std.proofs.Common.{flat_map, take}
use Rattle.log_report.specs.Rows.{Extends, tsv_byte}
use Rattle.log_report.proofs.rows.append_escaped.Given as goal

abbrev pub invariant-loop-byte : goal.invariant-loop-byte
invariant-loop-byte l = Extends l.fn.row.items l.row.items (flat_map tsv_byte (take l.byte-index l.text))
