use Rattle.std.proofs.Common.{◌≡◌, ◌∙◌, ap, sym, ℕ, max, length, arith, ℤ}
use Rattle.std.proofs.lemmas.Int.{ints}
use Rattle.simd_json_number.specs.Magnitudes.{first_apart}
use Rattle.simd_json_number.specs.declared.literal.LiteralParts.{LiteralParts}
use Rattle.simd_json_number.specs.Numbers.{digits, integer}
use Rattle.simd_json_number.specs.Padded.{compare_first}
use Rattle.simd_json_number.proofs.DigitLists.{digits-below}
use Rattle.simd_json_number.proofs.Orders.{AreApart, greater-first, less-first, level-first}
use Rattle.simd_json_number.proofs.magnitude.compare_significant.Goals as goal

counted : (l r : LiteralParts) (n m : ℕ) (apart : ℤ) → apart ≡ first_apart l n r m
    → n ≡ length (digits l.significant.now) → m ≡ length (digits r.significant.now)
    → apart ≡ first_apart l (length (digits l.significant.now)) r (length (digits r.significant.now))
counted l r n m apart is left right = is ∙ ap (λ k. first_apart l k r m) left
    ∙ ap (first_apart l (length (digits l.significant.now)) r) right

pub returns-then-apart-gt0 : goal.returns-then-apart-gt0
returns-then-apart-gt0 c =
    let l = c.args.left.now in
    let r = c.args.right.now in
    let xs = digits l.significant.now in
    let ys = digits r.significant.now in
    let apart = c.first_apart-apart.ensures in
    let are : AreApart (length xs) (length ys) (length (digits l.fraction.now)) (length (digits r.fraction.now))
    (integer l.exponent.now) (integer r.exponent.now) c.first_apart-apart.result =
    record {
      few = (omega arith, omega arith, apart.left, apart.right);
      is =
          counted l r _ _ _ apart.value c.count_digits-left_count.ensures c.count_digits-right_count.ensures;
    } in
    sym (greater-first xs ys (length (digits l.fraction.now)) (length (digits r.fraction.now)) (integer l.exponent.now)
    (integer r.exponent.now) c.first_apart-apart.result (l.leading c.requires.left) (r.leading c.requires.right)
    (digits-below l.significant.now) (digits-below r.significant.now) are (omega (arith, ints)))

pub returns-then-apart-lt0 : goal.returns-then-apart-lt0
returns-then-apart-lt0 c =
    let l = c.args.left.now in
    let r = c.args.right.now in
    let xs = digits l.significant.now in
    let ys = digits r.significant.now in
    let apart = c.first_apart-apart.ensures in
    let are : AreApart (length xs) (length ys) (length (digits l.fraction.now)) (length (digits r.fraction.now))
    (integer l.exponent.now) (integer r.exponent.now) c.first_apart-apart.result =
    record {
      few = (omega arith, omega arith, apart.left, apart.right);
      is =
          counted l r _ _ _ apart.value c.count_digits-left_count.ensures c.count_digits-right_count.ensures;
    } in
    sym (less-first xs ys (length (digits l.fraction.now)) (length (digits r.fraction.now)) (integer l.exponent.now)
    (integer r.exponent.now) c.first_apart-apart.result (l.leading c.requires.left) (r.leading c.requires.right)
    (digits-below l.significant.now) (digits-below r.significant.now) are (omega (arith, ints)))

pub returns : goal.returns
returns c =
    let l = c.args.left.now in
    let r = c.args.right.now in
    let xs = digits l.significant.now in
    let ys = digits r.significant.now in
    let apart = c.first_apart-apart.ensures in
    let are : AreApart (length xs) (length ys) (length (digits l.fraction.now)) (length (digits r.fraction.now))
    (integer l.exponent.now) (integer r.exponent.now) c.first_apart-apart.result =
    record {
      few = (omega arith, omega arith, apart.left, apart.right);
      is =
          counted l r _ _ _ apart.value c.count_digits-left_count.ensures c.count_digits-right_count.ensures;
    } in
    let same-max : max c.count_digits-left_count.result c.count_digits-right_count.result ≡ max (length xs) (length ys) =
    ap (λ k. max k c.count_digits-right_count.result) c.count_digits-left_count.ensures
    ∙ ap (max (length xs)) c.count_digits-right_count.ensures in
    c.compare_digits.ensures
    ∙ ap (λ k. compare_first k xs ys) (c.max.ensures ∙ same-max)
    ∙ level-first xs ys (length (digits l.fraction.now)) (length (digits r.fraction.now)) (integer l.exponent.now)
    (integer r.exponent.now) c.first_apart-apart.result (l.leading c.requires.left) (r.leading c.requires.right)
    (digits-below l.significant.now) (digits-below r.significant.now) are (omega (arith, ints))
