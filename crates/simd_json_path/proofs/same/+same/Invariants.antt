use Rattle.std.proofs.Common.{◌≡◌, ◌≤◌, ◌+◌, ◌-◌, ◌*◌, length, drop, take, true}
use Rattle.std.specs.List.{list_all}
use Rattle.simd_json.specs.Iterated.{elements_left, keys_left}
use Rattle.simd_json.specs.Viewed.{pairs}
use Rattle.simd_json_parts.specs.Views.{keys}
use Rattle.simd_json_path.specs.Comparisons.{same_at, same_lists, same_to}
use Rattle.simd_json_path.proofs.same.+same.Given as goal

abbrev pub decreases-same_to : goal.decreases-same_to
decreases-same_to l = 4 * l.levels + 1

abbrev pub decreases-same_containers : goal.decreases-same_containers
decreases-same_containers l = 4 * l.levels

abbrev pub decreases-same_elements : goal.decreases-same_elements
decreases-same_elements l = 4 * l.levels + 3

abbrev pub decreases-same_pairs : goal.decreases-same_pairs
decreases-same_pairs l = 4 * l.levels + 3

abbrev pub decreases-same_value : goal.decreases-same_value
decreases-same_value l = 4 * l.levels + 2

abbrev pub invariant-same_elements-loop-element : goal.invariant-same_elements-loop-element
invariant-same_elements-loop-element l =
    same_lists (same_to l.levels) (elements_left l.left_elements) (elements_left l.right_elements)
    ≡ same_lists (same_to l.fn.levels) (elements_left l.fn.left) (elements_left l.fn.right)

abbrev pub decreases-same_elements-loop-element : goal.decreases-same_elements-loop-element
decreases-same_elements-loop-element l = length (elements_left l.left_elements)

abbrev pub invariant-same_pairs-loop-passed : goal.invariant-same_pairs-loop-passed
invariant-same_pairs-loop-passed l = record {
  within : l.passed ≤ l.len;
  rest : keys_left l.keys ≡ drop l.passed (keys (pairs l.left));
  so_far : list_all (same_at (same_to l.levels) (pairs l.left) (pairs l.right)) (take l.passed (keys (pairs l.left))) ≡ true;
}

abbrev pub decreases-same_pairs-loop-passed : goal.decreases-same_pairs-loop-passed
decreases-same_pairs-loop-passed l = l.len - l.passed
