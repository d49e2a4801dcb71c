use Rattle.std.proofs.Common.{◌≡◌, ◌≢◌, ap, ◌<◌, ℕ, arith, rules}
use Rattle.std.specs.Char.{digit_value}
use Rattle.simd_json_query.proofs.Numbers.{read-more, read-natural}
use Rattle.simd_json_query.proofs.text.integers.more_digits.Goals as goal

no-zero : (first digit : ℕ) → digit_value first ≡ digit → 0 < digit → first ≢ 48
no-zero first digit is some same = let zero : digit_value first ≡ 0 = ap digit_value same in absurd (omega (arith, is, zero))

below : (first digit : ℕ) → digit_value first ≡ digit → digit < 10 → digit_value first < 10
below first digit is few = omega (arith, is)

pub returns-in_default-to_digit-clause-number : goal.returns-in_default-to_digit-clause-number
returns-in_default-to_digit-clause-number c text begins =
    read-natural c.args.first c.digits.value text c.args.others.now c.digits.left.now c.digits.invariant.3
    (below c.args.first c.args.digit c.requires.digit c.requires.few)
    (no-zero c.args.first c.args.digit c.requires.digit c.requires.some) c.digits.invariant.2 begins

pub digits-preserved : goal.digits-preserved
digits-preserved c =
    let is : c.in-Some-to_digit.digit ≡ digit_value c.in-Some.next = c.in-Some-to_digit.ensures.value.1 in (
      search rules,
      omega arith,
      omega arith,
      rw is (read-more c.args.first c.digits.value c.args.others.now c.digits.left.now c.in-Some.behind.now c.in-Some.next
          c.digits.invariant.3 c.in-Some-to_digit.ensures.value.0 c.in-Some.ensures.character),
      omega (arith, c.in-Some.ensures.shorter, c.digits.invariant.4),
    )

pub returns-clause-number : goal.returns-clause-number
returns-clause-number c text begins =
    read-natural c.args.first c.digits.value text c.args.others.now c.digits.left.now c.digits.invariant.3
    (below c.args.first c.args.digit c.requires.digit c.requires.few)
    (no-zero c.args.first c.args.digit c.requires.digit c.requires.some) c.digits.invariant.2 begins
