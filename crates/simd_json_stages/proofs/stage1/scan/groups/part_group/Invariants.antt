use Rattle.std.proofs.Common.{◌-◌, ◌≤◌, ℕ, List}
use Rattle.simd_json_stages.specs.Groups.{HaveClasses, HaveParts}
use Rattle.simd_json_stages.proofs.Scan.GroupLaws.{AreWords}
use Rattle.simd_json_stages.proofs.stage1.scan.groups.part_group.Given as goal

abbrev pub invariant-loop-k : goal.invariant-loop-k
invariant-loop-k l = record {
  to : l.k ≤ 8;
  words : AreWords l.parts.parity l.parts.plain l.parts.space l.parts.quote;
  found : (b : List ℕ) (first : ℕ) → HaveClasses b first 8 l.classes → HaveParts b first l.k l.parts;
}

abbrev pub decreases-loop-k : goal.decreases-loop-k
decreases-loop-k l = 8 - l.k
