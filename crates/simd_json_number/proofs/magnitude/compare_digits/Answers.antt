use Rattle.std.proofs.Common.{◌≡◌, ◌∙◌, ap, sym, ◌-◌, ℕ, suc, List, drop, arith, slice_index}
use Rattle.std.specs.Ordering.{ordering_then}
use Rattle.simd_json_number.specs.Padded.{compare_first, digits_left}
use Rattle.simd_json_number.proofs.DigitLists.{equal-is}
use Rattle.simd_json_number.proofs.magnitude.compare_digits.Goals as goal

one-more : (m : ℕ) (xs ys : List ℕ) → slice_index xs 0 ≡ slice_index ys 0
    → compare_first m (drop 1 xs) (drop 1 ys) ≡ compare_first (suc m) xs ys
one-more m xs ys same =
    ap (λ o. ordering_then o (compare_first m (drop 1 xs) (drop 1 ys))) (sym (equal-is (slice_index xs 0) (slice_index ys 0) same))

pub loop-places-preserved : goal.loop-places-preserved
loop-places-preserved c =
    let left = c.next-left_digit.ensures in
    let right = c.next-right_digit.ensures in
    let xs = digits_left c.loop-places.left_digits in
    let ys = digits_left c.loop-places.right_digits in
    let m = c.loop-places.places - 1 in
    let places : suc m ≡ c.loop-places.places = omega arith in
    ap (λ zs. compare_first m zs (digits_left c.next-right_digit.new.self)) left.left
    ∙ ap (compare_first m (drop 1 xs)) right.left
    ∙ one-more m xs ys (sym left.digit ∙ c.if-left_digit-right_digit.false ∙ right.digit)
    ∙ ap (λ k. compare_first k xs ys) places
    ∙ c.loop-places.invariant
