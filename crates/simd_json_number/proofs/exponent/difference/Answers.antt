use mir.Syntax.{w128}
use mir.Val.{of_z, to_z}
use Rattle.std.proofs.Common.{◌≡◌, ◌∙◌, ap, sym, ◌+◌, ◌-◌, ◌<◌, ◌++◌, ℕ, Bool, List, length, drop, take, replicate, arith, get_or}
use Rattle.std.specs.Prelude.{slice_index, ℤ, pos, ◌+ℤ◌, ◌-ℤ◌, ◌*ℤ◌}
use Rattle.std.specs.Int.Digits.{number_from_digits}
use Rattle.std.proofs.lemmas.Int.{ints}
use Rattle.std.proofs.lemmas.Int.Digits.{number_more}
use Rattle.std.proofs.lemmas.List.{drop-drop, take_all, length-append, length-replicate, get_or-drop}
use Rattle.simd_json_parts.specs.Integers.{number_of}
use Rattle.simd_json_parts.specs.Numbers.{has_minus}
use Rattle.simd_json_number.specs.Clamped.{clamped, IsWithin}
use Rattle.simd_json_number.specs.Numbers.{digits}
use Rattle.simd_json_number.proofs.Clamps.{clamped-more, number_of-more}
use Rattle.simd_json_number.proofs.DigitLists.{number-zeros}
use Rattle.simd_json_number.proofs.exponent.difference.Goals as goal

-- after the last digit
all-taken : (zeros place : ℕ) (ds : List ℕ) → place ≡ zeros + length ds
    → number_from_digits 10 (take place (replicate zeros 0 ++ ds)) ≡ number_from_digits 10 ds
all-taken zeros place ds is =
    ap (number_from_digits 10)
    (take_all place (replicate zeros 0 ++ ds) (omega (arith, length-append (replicate zeros 0) ds, length-replicate {A = ℕ} zeros 0)))
    ∙ number-zeros zeros ds

-- after one digit more of each
so-far : (s t : Bool) (i : ℕ) (xs ys : List ℕ) (d x y : ℤ) → i < length xs → i < length ys
    → d ≡ clamped (number_of s (number_from_digits 10 (take i xs)) -ℤ number_of t (number_from_digits 10 (take i ys)))
    → x ≡ number_of s (get_or xs i 0) → y ≡ number_of t (get_or ys i 0) → IsWithin (pos 9) x → IsWithin (pos 9) y
    → clamped (pos 10 *ℤ d +ℤ x -ℤ y)
    ≡ clamped (number_of s (number_from_digits 10 (take (i + 1) xs)) -ℤ number_of t (number_from_digits 10 (take (i + 1) ys)))
so-far s t i xs ys d x y more more' is left right p q =
    let a = number_from_digits 10 (take i xs) in
    let b = number_from_digits 10 (take i ys) in
    let left' = ap (number_of s) (number_more 10 xs i more) ∙ number_of-more s a (get_or xs i 0) in
    let right' = ap (number_of t) (number_more 10 ys i more') ∙ number_of-more t b (get_or ys i 0) in
    let joined : pos 10 *ℤ (number_of s a -ℤ number_of t b) +ℤ x -ℤ y
    ≡ number_of s (number_from_digits 10 (take (i + 1) xs)) -ℤ number_of t (number_from_digits 10 (take (i + 1) ys)) =
    omega (arith, ints) in
    ap (λ (e : ℤ). clamped (pos 10 *ℤ e +ℤ x -ℤ y)) is
    ∙ clamped-more (number_of s a -ℤ number_of t b) x y p q
    ∙ ap clamped joined

digit-at : (i : ℕ) (xs ds : List ℕ) (d : ℕ) → d ≡ slice_index ds 0 → ds ≡ drop i xs → d ≡ get_or xs i 0
digit-at i xs ds d is left = is ∙ ap (λ zs. get_or zs 0 0) left ∙ get_or-drop i xs 0 0 ∙ ap (λ k. get_or xs k 0) (omega arith)

pub returns-clause-value : goal.returns-clause-value
returns-clause-value c =
    let left = c.args.left.now in
    let right = c.args.right.now in
    let xs = digits left in
    let ys = digits right in
    let n = c.max-places.result - c.count_digits-left_count.result in
    let m = c.max-places.result - c.count_digits-right_count.result in
    c.loop-place.invariant.so_far
    ∙ ap (λ a. clamped (number_of (has_minus left) a -ℤ number_of (has_minus right)
    (number_from_digits 10 (take c.loop-place.place (replicate m 0 ++ ys)))))
    (all-taken n c.loop-place.place xs (omega arith))
    ∙ ap (λ b. clamped (number_of (has_minus left) (number_from_digits 10 xs) -ℤ number_of (has_minus right) b))
    (all-taken m c.loop-place.place ys (omega arith))

pub loop-place-preserved : goal.loop-place-preserved
loop-place-preserved c =
    let left = c.args.left.now in
    let right = c.args.right.now in
    let n = c.max-places.result - c.count_digits-left_count.result in
    let m = c.max-places.result - c.count_digits-right_count.result in
    let xs = replicate n 0 ++ digits left in
    let ys = replicate m 0 ++ digits right in
    let i = c.loop-place.place in
    let more : i < length xs = omega (arith, length-append (replicate n 0) (digits left), length-replicate {A = ℕ} n 0) in
    let more' : i < length ys = omega (arith, length-append (replicate m 0) (digits right), length-replicate {A = ℕ} m 0) in
    let left_is : c.signed-left_digit.result ≡ number_of (has_minus left) (get_or xs i 0) =
    c.signed-left_digit.ensures.value ∙ ap (λ s. number_of s c.next.result) c.has_minus.ensures
    ∙ ap (number_of (has_minus left)) (digit-at i xs _ _ c.next.ensures.digit c.loop-place.invariant.left) in
    let right_is : c.signed-right_digit.result ≡ number_of (has_minus right) (get_or ys i 0) =
    c.signed-right_digit.ensures.value ∙ ap (λ s. number_of s c.next-in-loop-place.result) c.has_minus-in-loop-place.ensures
    ∙ ap (number_of (has_minus right)) (digit-at i ys _ _ c.next-in-loop-place.ensures.digit c.loop-place.invariant.right) in
    let x : ℤ = c.signed-left_digit.result in
    let y : ℤ = c.signed-right_digit.result in
    let x-bits : to_z w128 (of_z w128 x) ≡ x = omega (arith, ints) in
    let y-bits : to_z w128 (of_z w128 y) ≡ y = omega (arith, ints) in
    let bits : to_z w128 (of_z w128 c.next_difference-difference.result) ≡ c.next_difference-difference.result = omega (arith, ints) in
    record {
      within = omega arith;
      left = c.next.ensures.left ∙ ap (drop 1) c.loop-place.invariant.left ∙ drop-drop 1 i xs;
      right = c.next-in-loop-place.ensures.left ∙ ap (drop 1) c.loop-place.invariant.right ∙ drop-drop 1 i ys;
      so_far = bits
          ∙ c.next_difference-difference.ensures
          ∙ ap (λ (d : ℤ). clamped (pos 10 *ℤ d +ℤ to_z w128 (of_z w128 x) -ℤ to_z w128 (of_z w128 y))) c.loop-place.difference-is
          ∙ ap (λ (a : ℤ). clamped (pos 10 *ℤ c.loop-place.difference +ℤ a -ℤ to_z w128 (of_z w128 y))) x-bits
          ∙ ap (λ (a : ℤ). clamped (pos 10 *ℤ c.loop-place.difference +ℤ x -ℤ a)) y-bits
          ∙ so-far (has_minus left) (has_minus right) i xs ys c.loop-place.difference c.signed-left_digit.result c.signed-right_digit.result
          more more' (sym c.loop-place.difference-is ∙ c.loop-place.invariant.so_far) left_is right_is
          c.signed-left_digit.ensures.within c.signed-right_digit.ensures.within;
    }
