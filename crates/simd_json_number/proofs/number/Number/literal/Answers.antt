use Rattle.std.proofs.Common.{◌≡◌, ◌∙◌, ap, sym, arith, pos}
use Rattle.simd_json_parts.specs.Integers.{number_of}
use Rattle.simd_json_number.specs.Magnitudes.{magnitude, value}
use Rattle.simd_json_number.specs.Meanings.{number}
use Rattle.simd_json_number.specs.Numbers.{Decimal, meaning}
use Rattle.simd_json_number.proofs.Integers.{decimals, magnitude-of, meaning-decimal}
use Rattle.simd_json_number.proofs.number.Number.literal.Goals as goal

pub returns-in-Integer : goal.returns-in-Integer
returns-in-Integer c =
    let n = c.in-Integer.magnitude in
    let l = c.of.result in
    let is : value l ≡ record { coefficient = pos n; exponent = pos 0 } =
    c.of.ensures ∙ ap meaning (c.as_bytes.ensures.value ∙ c.format.ensures.text) ∙ meaning-decimal n (omega arith) in
    let coefficient : number_of l.is_negative (magnitude l) ≡ pos n = ap (λ (d : Decimal). d.coefficient) is in
    let size : magnitude l ≡ n = magnitude-of l.is_negative (magnitude l) n coefficient in
    let r = c.with_sign.result in
    decimals _ _ _ _
    (ap (number_of r.is_negative) c.with_sign.ensures.magnitude ∙ c.with_sign.ensures.sign ∙ ap (number_of c.in-Integer.is_negative) size)
    (c.with_sign.ensures.exponent ∙ ap (λ (d : Decimal). d.exponent) is)
    ∙ ap number (sym c.in-Integer.is)
