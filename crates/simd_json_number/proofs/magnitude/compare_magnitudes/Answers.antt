use Rattle.std.proofs.Common.{◌≡◌, sym, ◌<◌, length, rules, ◌-ℤ◌}
use Rattle.simd_json_number.specs.Magnitudes.{exponent, magnitude}
use Rattle.simd_json_number.specs.Numbers.{digits, positive_part}
use Rattle.simd_json_number.proofs.DigitLists.{greater-is, less-is, number-none}
use Rattle.simd_json_number.proofs.Orders.{none-below, some-number}
use Rattle.simd_json_number.proofs.magnitude.compare_magnitudes.Goals as goal

pub returns-then-is_empty-3 : goal.returns-then-is_empty-3
returns-then-is_empty-3 c =
    let l = c.args.left.now in
    let r = c.args.right.now in
    let none : length l.significant.now ≡ 0 = search rules in
    let some : 0 < length r.significant.now = search rules in
    sym (less-is _ _
    (none-below (magnitude l) (magnitude r) (positive_part (exponent l -ℤ exponent r)) (positive_part (exponent r -ℤ exponent l))
    (number-none l.significant.now none) (some-number (digits r.significant.now) (r.leading some))))

pub returns-then-is_empty-4 : goal.returns-then-is_empty-4
returns-then-is_empty-4 c =
    let l = c.args.left.now in
    let r = c.args.right.now in
    let none : length r.significant.now ≡ 0 = search rules in
    let some : 0 < length l.significant.now = search rules in
    sym (greater-is _ _
    (none-below (magnitude r) (magnitude l) (positive_part (exponent r -ℤ exponent l)) (positive_part (exponent l -ℤ exponent r))
    (number-none r.significant.now none) (some-number (digits l.significant.now) (l.leading some))))
