use Rattle.std.proofs.Common.{◌≡◌, ℕ, List, length, map}
use Rattle.std.specs.Simd.Lanes.{mask_l}
use Rattle.simd_json_parts.specs.Bytes.{is_closing, is_opening}
use Rattle.simd_json_ondemand.proofs.ClosingBits.{Reached}
use Rattle.simd_json_ondemand.proofs.skip.closing_bit.Given as goal

abbrev pub invariant-loop-rest : goal.invariant-loop-rest
invariant-loop-rest l = (cs : List ℕ) → length cs ≡ 8 → l.opens ≡ mask_l (map is_opening cs) → l.closes ≡ mask_l (map is_closing cs)
    → Reached l.levels cs l.rest l.left

abbrev pub decreases-loop-rest : goal.decreases-loop-rest
decreases-loop-rest l = l.rest
