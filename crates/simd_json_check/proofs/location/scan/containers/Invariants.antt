use Rattle.std.proofs.Common.{◌≡◌}
use Rattle.simd_json_check.proofs.Places.StringScan.{IsScan}
use Rattle.simd_json_check.specs.Openings.{last_below, open_before}
use Rattle.simd_json_check.proofs.location.scan.containers.Given as goal

abbrev pub invariant-loop-i : goal.invariant-loop-i
invariant-loop-i l = record {
  scan : IsScan l.input l.i l.strings.is_escaped l.strings.is_inside;
  levels : l.count ≡ open_before l.input l.i;
  last : l.below ≡ last_below l.input l.level l.i;
}
