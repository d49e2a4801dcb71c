use Rattle.std.proofs.Common.{◌≡◌}
use Rattle.simd_json_ondemand.specs.Walked.{members_ahead, members_from_first}
use Rattle.simd_json_ondemand.specs.Walks.{walk_from}
use Rattle.simd_json_ondemand.specs.Within.{AreInSameObject, IsInObject}
use Rattle.simd_json_ondemand.specs.declared.value.Value.{Value}
use Rattle.simd_json_ondemand.proofs.Turns.{count}
use Rattle.simd_json_ondemand.proofs.object.Object.find_before.Given as goal

abbrev pub invariant-loop-all : goal.invariant-loop-all
invariant-loop-all l = record {
  object : AreInSameObject l.self l.all;
  inside : (v : Value) → IsInObject v l.self → IsInObject v l.all;
  ahead : walk_from l.wanted.key.now (members_from_first l.self) ≡ walk_from l.wanted.key.now (members_ahead l.all);
}

abbrev pub decreases-loop-all : goal.decreases-loop-all
decreases-loop-all l = count (members_ahead l.all)
