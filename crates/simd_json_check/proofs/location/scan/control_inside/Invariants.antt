use Rattle.std.proofs.Common.{◌≡◌, ◌<◌, ℕ, false}
use Rattle.simd_json_check.proofs.Places.StringScan.{IsScan}
use Rattle.simd_json_check.specs.Locations.{is_control_inside}
use Rattle.simd_json_check.proofs.location.scan.control_inside.Given as goal

abbrev pub invariant-loop-i : goal.invariant-loop-i
invariant-loop-i l = IsScan l.input l.i l.strings.is_escaped l.strings.is_inside
    × ((k : ℕ) → k < l.i → is_control_inside l.input k ≡ false)
