use Rattle.std.proofs.Common.{◌≡◌, bytes_eq, take}
use Rattle.std.specs.List.{list_any}
use Rattle.simd_json.specs.Iterated.{keys_left}
use Rattle.simd_json_path.proofs.same.is_among.Given as goal

abbrev pub invariant-loop-left : goal.invariant-loop-left
invariant-loop-left l =
    list_any (λ other. bytes_eq other l.key) (take l.left (keys_left l.others))
    ≡ list_any (λ other. bytes_eq other l.fn.key) (take l.fn.count (keys_left l.fn.keys))

abbrev pub decreases-loop-left : goal.decreases-loop-left
decreases-loop-left l = l.left
