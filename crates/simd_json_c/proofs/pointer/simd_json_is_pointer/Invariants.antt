use Rattle.std.proofs.Common.{◌≡◌, ◌≤◌, ◌-◌, length, drop}
use Rattle.simd_json_parts.specs.Pointed.{is_pointer}
use Rattle.simd_json_c.proofs.pointer.simd_json_is_pointer.Given as goal

abbrev pub invariant-loop-token : goal.invariant-loop-token
invariant-loop-token l = record {
  within : l.followed ≤ length l.pointer;
  formed : is_pointer l.pointer ≡ is_pointer (drop l.followed l.pointer);
}

abbrev pub decreases-loop-token : goal.decreases-loop-token
decreases-loop-token l = length l.pointer - l.followed
