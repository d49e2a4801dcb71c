use Rattle.std.proofs.Common.{◌≡◌, ◌≤◌}
use Rattle.simd_json.specs.Viewed.{doc}
use Rattle.simd_json_path.specs.Filters.{holds}
use Rattle.simd_json_path.proofs.Tests.{operator_count}
use Rattle.simd_json_path.proofs.filter.+holds.Given as goal

abbrev pub decreases-holds : goal.decreases-holds
decreases-holds l = operator_count l.test.now

abbrev pub invariant-operands : goal.invariant-operands
invariant-operands l = record {
  same : holds (doc l.root) l.last (doc l.node) ≡ holds (doc l.fn.root) l.fn.test (doc l.fn.node);
  within : operator_count l.last ≤ operator_count l.fn.test;
}
