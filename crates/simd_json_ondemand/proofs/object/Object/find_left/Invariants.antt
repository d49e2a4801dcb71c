use Rattle.std.proofs.Common.{◌≡◌}
use Rattle.simd_json_ondemand.specs.Reached.{walk_to}
use Rattle.simd_json_ondemand.specs.Sites.{member_sites}
use Rattle.simd_json_ondemand.specs.Walked.{members_ahead}
use Rattle.simd_json_ondemand.specs.Walks.{walk_from}
use Rattle.simd_json_ondemand.specs.Within.{AreInSameObject, IsInObject}
use Rattle.simd_json_ondemand.specs.declared.value.Value.{Value}
use Rattle.simd_json_ondemand.proofs.Turns.{count}
use Rattle.simd_json_ondemand.proofs.object.Object.find_left.Given as goal

abbrev pub invariant-loop-name : goal.invariant-loop-name
invariant-loop-name l = record {
  same : l.self ≡ l.fn.self;
  ahead : walk_from l.wanted.key.now (members_ahead l.fn.self) ≡ walk_from l.wanted.key.now (members_ahead l.left);
  object : AreInSameObject l.fn.self l.left;
  inside : (v : Value) → IsInObject v l.fn.self → IsInObject v l.left;
  sites : walk_to l.wanted.key.now (member_sites l.fn.self) ≡ walk_to l.wanted.key.now (member_sites l.left);
}

abbrev pub decreases-loop-name : goal.decreases-loop-name
decreases-loop-name l = count (members_ahead l.left)
