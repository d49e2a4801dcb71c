use Rattle.std.proofs.Common.{◌≡◌, ◌+◌, ◌-◌, ◌<◌, length, drop}
use Rattle.std.specs.List.{prefix_len}
use Rattle.simd_json_scalars.specs.StringContent.{is_plain}
use Rattle.simd_json_scalars.proofs.stringparse.plain_end.Given as goal

-- as many plain bytes stand from here on as are left of those from the start, and another byte after them
abbrev pub invariant-loop-end : goal.invariant-loop-end
invariant-loop-end l = record {
  value : l.from + prefix_len is_plain (drop l.from l.bytes) ≡ l.end + prefix_len is_plain (drop l.end l.bytes);
  bound : l.from + prefix_len is_plain (drop l.from l.bytes) < length l.bytes;
}

abbrev pub decreases-loop-end : goal.decreases-loop-end
decreases-loop-end l = length l.bytes - l.end
