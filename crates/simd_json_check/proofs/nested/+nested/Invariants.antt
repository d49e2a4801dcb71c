use Rattle.std.proofs.Common.{ℕ, ◌+◌, ◌-◌, ◌*◌, ◌≤◌, length}
use Rattle.simd_json_check.specs.Whole.{IsElements, IsMembers}
use Rattle.simd_json_check.proofs.Along.{AtElement, AtMember}
use Rattle.simd_json_check.proofs.nested.+nested.Given as goal

abbrev pub decreases-value_end : goal.decreases-value_end
decreases-value_end l = 2 * l.levels

abbrev pub decreases-array_end : goal.decreases-array_end
decreases-array_end l = 2 * l.levels + 1

abbrev pub decreases-object_end : goal.decreases-object_end
decreases-object_end l = 2 * l.levels + 1

abbrev pub invariant-array_end-loop-at : goal.invariant-array_end-loop-at
invariant-array_end-loop-at l =
    let b = l.fn.input in
    let is = l.fn.indexes in
    (l.at ≤ length is) × (l.start ≤ l.at)
    × ((end : ℕ) → AtElement b is l.levels l.at end → IsElements b is l.levels l.start end)

abbrev pub decreases-array_end-loop-at : goal.decreases-array_end-loop-at
decreases-array_end-loop-at l = length l.fn.indexes - l.at

abbrev pub invariant-object_end-loop-at : goal.invariant-object_end-loop-at
invariant-object_end-loop-at l =
    let b = l.fn.input in
    let is = l.fn.indexes in
    (l.at ≤ length is) × (l.start ≤ l.at)
    × ((end : ℕ) → AtMember b is l.levels l.at end → IsMembers b is l.levels l.start end)

abbrev pub decreases-object_end-loop-at : goal.decreases-object_end-loop-at
decreases-object_end-loop-at l = length l.fn.indexes - l.at
