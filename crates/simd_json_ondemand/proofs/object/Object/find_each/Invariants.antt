use Rattle.std.proofs.Common.{◌≡◌, ◌<◌, ℕ, get_or, length, None, Some}
use Rattle.std.specs.List.{slice_get}
use Rattle.simd_json_ondemand.specs.Prepared.{first_key}
use Rattle.simd_json_ondemand.specs.Sites.{member_sites}
use Rattle.simd_json_ondemand.specs.declared.prepared.PreparedPointer.{PreparedPointer}
use Rattle.simd_json_ondemand.proofs.Several.{IsSought}
use Rattle.simd_json_ondemand.proofs.Turns.{count}
use Rattle.simd_json_ondemand.proofs.object.Object.find_each.Given as goal

abbrev pub invariant-loop-key : goal.invariant-loop-key
invariant-loop-key g l = record {
  same : length l.values ≡ length l.fn.values;
  sought : (k : ℕ) (p : PreparedPointer _) → slice_get l.pointers k ≡ Some p → 0 < p.key_end
      → IsSought (first_key p) (member_sites l.fn.self) (member_sites l.left) (get_or l.values k None);
}

abbrev pub decreases-loop-key : goal.decreases-loop-key
decreases-loop-key g l = count (member_sites l.left)
