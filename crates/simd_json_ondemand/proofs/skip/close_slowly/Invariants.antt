use Rattle.std.proofs.Common.{length, ◌-◌, ◌≡◌, ◌+◌, ◌<◌, ◌≤◌, drop}
use Rattle.simd_json_ondemand.specs.Closing.{closed_at, first_bytes}
use Rattle.simd_json_ondemand.proofs.skip.close_slowly.Given as goal

abbrev pub invariant-loop-end : goal.invariant-loop-end
invariant-loop-end l = record {
  from : l.at ≤ l.end;
  to : l.end ≤ length l.indexes;
  some : 0 < l.depth;
  few : l.depth ≤ l.end + 1;
  counted : l.end + closed_at l.depth (first_bytes l.input (drop l.end l.indexes))
      ≡ l.at + closed_at l.levels (first_bytes l.input (drop l.at l.indexes));
}

abbrev pub decreases-loop-end : goal.decreases-loop-end
decreases-loop-end l = length l.indexes - l.end
