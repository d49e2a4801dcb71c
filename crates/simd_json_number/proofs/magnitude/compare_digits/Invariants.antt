use Rattle.std.proofs.Common.{◌≡◌}
use Rattle.simd_json_number.specs.Numbers.{digits}
use Rattle.simd_json_number.specs.Padded.{compare_first, digits_left}
use Rattle.simd_json_number.proofs.magnitude.compare_digits.Given as goal

abbrev pub invariant-loop-places : goal.invariant-loop-places
invariant-loop-places l =
    compare_first l.places (digits_left l.left_digits) (digits_left l.right_digits)
    ≡ compare_first l.fn.count (digits l.fn.left) (digits l.fn.right)

abbrev pub decreases-loop-places : goal.decreases-loop-places
decreases-loop-places l = l.places
