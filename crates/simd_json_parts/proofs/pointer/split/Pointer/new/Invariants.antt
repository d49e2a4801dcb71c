use Rattle.std.proofs.Common.{◌≡◌, ◌≤◌, ◌-◌, ◌++◌, length, drop, take}
use Rattle.simd_json_parts.specs.Followed.{ends_from, tokens_after}
use Rattle.simd_json_parts.specs.Pointed.{is_pointer}
use Rattle.simd_json_parts.proofs.pointer.split.Pointer.new.Given as goal

abbrev pub invariant-loop-at : goal.invariant-loop-at
invariant-loop-at g l = record {
  within : l.at ≤ length l.bytes;
  counted : l.len ≤ g.row.N;
  room : length l.ends ≡ g.row.N;
  formed : is_pointer l.bytes ≡ is_pointer (drop l.at l.bytes);
  split : ends_from 0 (tokens_after l.bytes) ≡ take l.len l.ends ++ ends_from l.at (tokens_after (drop l.at l.bytes));
}

abbrev pub decreases-loop-at : goal.decreases-loop-at
decreases-loop-at g l = length l.bytes - l.at
