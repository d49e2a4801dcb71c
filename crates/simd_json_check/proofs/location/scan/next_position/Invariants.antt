use Rattle.std.proofs.Common.{◌≡◌, ◌<◌, ◌&&◌, ℕ, false, nat_lt}
use Rattle.simd_json_parts.specs.Positions.{is_fresh, is_position}
use Rattle.simd_json_check.proofs.Places.StringScan.{IsScan}
use Rattle.simd_json_check.proofs.location.scan.next_position.Given as goal

abbrev pub invariant-loop-k : goal.invariant-loop-k
invariant-loop-k l = IsScan l.input l.k l.strings.is_escaped l.strings.is_inside
    × (l.is_fresh ≡ is_fresh l.input l.k)
    × ((j : ℕ) → j < l.k → (nat_lt l.i j && is_position l.input j) ≡ false)
