use Rattle.std.proofs.Common.{◌+◌, ◌-◌, ◌≤◌}
use Rattle.std.specs.Int.RustNames.{count_ones}
use Rattle.simd_json_stages.specs.Words.{set_bits}
use Rattle.simd_json_stages.specs.Stored.{IsStored}
use Rattle.simd_json_stages.proofs.stage1.lists.write_exactly.Given as goal

abbrev pub invariant-loop-rest : goal.invariant-loop-rest
invariant-loop-rest l = record {
  from : l.used ≤ l.end;
  few : l.end ≤ l.used + count_ones l.bits;
  stored : IsStored l.fn.structural_indexes l.used (set_bits 64 l.base l.bits) (l.end - l.used) l.base l.structural_indexes l.rest;
}

abbrev pub decreases-loop-rest : goal.decreases-loop-rest
decreases-loop-rest l = l.used + count_ones l.bits - l.end
