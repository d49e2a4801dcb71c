use Rattle.std.proofs.Common.{◌≡◌, length, is_some}
use Rattle.std.specs.List.{list_all}
use Rattle.simd_json.specs.Iterated.{keys_left}
use Rattle.simd_json.specs.Viewed.{pairs}
use Rattle.simd_json_parts.specs.Views.{first_with}
use Rattle.simd_json_path.proofs.same.has_keys.Given as goal

abbrev pub invariant-loop-key : goal.invariant-loop-key
invariant-loop-key l =
    list_all (λ key. is_some (first_with key (pairs l.object))) (keys_left l.left)
    ≡ list_all (λ key. is_some (first_with key (pairs l.fn.object))) (keys_left l.fn.keys)

abbrev pub decreases-loop-key : goal.decreases-loop-key
decreases-loop-key l = length (keys_left l.left)
