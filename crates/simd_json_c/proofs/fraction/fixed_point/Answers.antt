use Rattle.std.proofs.Common.{◌≡◌, ◌+◌, ◌-◌, ◌*◌, ◌<◌, ◌^◌, ℕ, List, length, get_or, arith}
use Rattle.simd_json_c.specs.Doubles.{IsFixedPoint}
use Rattle.simd_json_c.proofs.DigitTails.{run-digits}
use Rattle.simd_json_c.proofs.FixedPoints.{cut-at, cut-fits}
use Rattle.simd_json_c.proofs.fraction.fixed_point.Goals as goal
use Rattle.simd_json_c.proofs.fraction.fixed_point.Goals.{else-bytes-eq48-via-then-bytes-eq48+else-point-gt1}
use Rattle.simd_json_c.proofs.fraction.fixed_point.Goals.{else-bytes-eq48-via-else-bytes-eq48}

abbrev number : (c : goal.After-ten_to) → ℕ
number c = c.leading_digits-whole.result.0 * c.ten_to.result + c.in_ok-behind.behind

abbrev IsCut : goal.After-ten_to → Type 0
IsCut c = IsFixedPoint c.args.bytes.now (number c) (length c.args.bytes.now - c.leading_digits-whole.result.1 - 1)
    × (number c < 2 ^ 64)

cut : (c : goal.After-ten_to) → IsCut c
cut c =
    let l : List ℕ = c.args.bytes.now in
    let point : ℕ = c.leading_digits-whole.result.1 in
    let whole = c.leading_digits-whole.ensures in
    let behind = c.in_ok-behind.ensures in
    let alone : get_or l 0 0 ≡ 48 → point ≡ 1 = (λ zero. elim c.else-bytes-eq48.branch [
      | else-bytes-eq48-via-then-bytes-eq48+else-point-gt1 w ↦ omega (arith, w.if-point-gt1.false, c.if-point-eq0.false)
      | else-bytes-eq48-via-else-bytes-eq48 w ↦ absurd (w.if-bytes-eq48.false zero)
    ]) in
    let is : get_or l point 0 ≡ 46 = omega (arith, c.if-bytes-point-ne46.false) in
    let digits = run-digits point l whole.run in (
      cut-at l point (omega arith) (omega arith) is alone digits behind.0 _ _ _ whole.value behind.1 c.ten_to.ensures,
      cut-fits l point (omega arith) (omega arith) is alone digits behind.0 _ _ _ whole.value behind.1 c.ten_to.ensures (omega arith),
    )

pub overflow_mul-result : goal.overflow_mul-result
overflow_mul-result c = omega (arith, (cut c).1)

pub overflow_add-result : goal.overflow_add-result
overflow_add-result c = omega (arith, (cut c).1)

pub returns-clause-parts : goal.returns-clause-parts
returns-clause-parts c = (cut c).0
