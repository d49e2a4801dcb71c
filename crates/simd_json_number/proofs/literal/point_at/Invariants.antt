use Rattle.std.proofs.Common.{◌≡◌, ◌<◌, ℕ, false, get_or}
use Rattle.simd_json_number.specs.Numbers.{is_point}
use Rattle.simd_json_number.proofs.literal.point_at.Given as goal

abbrev pub invariant-loop-index : goal.invariant-loop-index
invariant-loop-index l = (k : ℕ) → k < l.index → is_point (get_or l.significand k 0) ≡ false
