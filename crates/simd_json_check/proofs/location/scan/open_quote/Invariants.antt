use Rattle.simd_json_check.proofs.Places.StringScan.{IsOpen, IsScan}
use Rattle.simd_json_check.proofs.location.scan.open_quote.Given as goal

abbrev pub invariant-loop-i : goal.invariant-loop-i
invariant-loop-i l = IsScan l.input l.i l.strings.is_escaped l.strings.is_inside × IsOpen l.input l.i l.open
