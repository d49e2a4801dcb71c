use Rattle.std.proofs.Common.{◌∙◌, ap, arith, refl, inl, inr}
use Rattle.std.proofs.lemmas.Bool.{false≢true}
use Rattle.simd_json_c.specs.Doubles.{IsNumber}
use Rattle.simd_json_c.proofs.Doubles.{is-number, is-whole, len_of, number-float}
use Rattle.simd_json_c.proofs.double.put_nearest.Goals as goal
use Rattle.simd_json_c.proofs.double.put_nearest.Goals.{in-Integer, in-Decimal}

pub returns-then-len-literal : goal.returns-then-len-literal
returns-then-len-literal c =
    let b = c.args.literal.now in
    let read = c.parse_number.ensures b 0 refl in
    let other : IsNumber b → ⊥ = (λ number. elim c.match-parse_number.branch [
      | in-Integer w ↦ omega (arith, is-whole b _ read number, w.len-is, ap (len_of b) w.in-Integer.is, c.if-len-literal.true)
      | in-Decimal w ↦ omega (arith, is-whole b _ read number, w.len-is, ap (len_of b) w.in-Decimal.is, c.if-len-literal.true)
    ]) in
    inr (other, refl, refl)

pub returns-in-Ok : goal.returns-in-Ok
returns-in-Ok c =
    let b = c.args.literal.now in
    let read = c.parse_number.ensures b 0 refl in
    let number : IsNumber b = elim c.match-parse_number.branch [
      | in-Integer w ↦ is-number b _ read (omega (arith, w.len-is, ap (len_of b) w.in-Integer.is, c.if-len-literal.false))
      | in-Decimal w ↦ is-number b _ read (omega (arith, w.len-is, ap (len_of b) w.in-Decimal.is, c.if-len-literal.false))
    ] in
    inl (number, refl, c.in-Ok.ensures.exact)

pub returns-in-Err : goal.returns-in-Err
returns-in-Err c =
    let b = c.args.literal.now in
    let read = c.parse_number.ensures b 0 refl in
    let number : IsNumber b = elim c.match-parse_number.branch [
      | in-Integer w ↦ is-number b _ read (omega (arith, w.len-is, ap (len_of b) w.in-Integer.is, c.if-len-literal.false))
      | in-Decimal w ↦ is-number b _ read (omega (arith, w.len-is, ap (len_of b) w.in-Decimal.is, c.if-len-literal.false))
    ] in
    absurd (false≢true (c.in-Err.ensures.variant ∙ number-float b number))
