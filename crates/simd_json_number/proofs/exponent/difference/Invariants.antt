use Rattle.std.proofs.Common.{◌≡◌, ◌≤◌, ◌-◌, ◌++◌, drop, take, ◌-ℤ◌, replicate}
use Rattle.std.specs.Int.Digits.{number_from_digits}
use Rattle.simd_json_parts.specs.Integers.{number_of}
use Rattle.simd_json_parts.specs.Numbers.{has_minus}
use Rattle.simd_json_number.specs.Clamped.{clamped}
use Rattle.simd_json_number.specs.Numbers.{digits}
use Rattle.simd_json_number.specs.Padded.{digits_left}
use Rattle.simd_json_number.proofs.exponent.difference.Given as goal

abbrev pub invariant-loop-place : goal.invariant-loop-place
invariant-loop-place l =
    let xs = replicate (l.places - l.left_count) 0 ++ digits l.left in
    let ys = replicate (l.places - l.right_count) 0 ++ digits l.right in
    record {
      within : l.place ≤ l.places;
      left : digits_left l.left_digits ≡ drop l.place xs;
      right : digits_left l.right_digits ≡ drop l.place ys;
      so_far : l.difference
          ≡ clamped
          (number_of (has_minus l.left) (number_from_digits 10 (take l.place xs))
          -ℤ number_of (has_minus l.right) (number_from_digits 10 (take l.place ys)));
    }

abbrev pub decreases-loop-place : goal.decreases-loop-place
decreases-loop-place l = l.places - l.place
