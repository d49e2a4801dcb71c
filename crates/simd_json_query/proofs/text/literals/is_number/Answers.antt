use Rattle.std.proofs.Common.{refl, subst}
use Rattle.simd_json_scalars.specs.NumeralRead.{IsNumeralAt}
use Rattle.simd_json_query.proofs.Numerals.{long-whole, number-whole}
use Rattle.simd_json_query.proofs.text.literals.is_number.Goals as goal

pub returns-in-Integer : goal.returns-in-Integer
returns-in-Integer c _ =
    let (end, is, fits) = subst (IsNumeralAt c.args.bytes.now 0) c.in-Integer.is (c.parse_numeral.ensures c.args.bytes.now 0 refl) in
    number-whole c.args.bytes.now _ is c.requires

pub returns-in-Long : goal.returns-in-Long
returns-in-Long c _ =
    long-whole c.args.bytes.now _ (subst (IsNumeralAt c.args.bytes.now 0) c.in-Long.is (c.parse_numeral.ensures c.args.bytes.now 0 refl))
    c.requires

pub returns-in-Decimal : goal.returns-in-Decimal
returns-in-Decimal c _ =
    number-whole c.args.bytes.now _
    (subst (IsNumeralAt c.args.bytes.now 0) c.in-Decimal.is (c.parse_numeral.ensures c.args.bytes.now 0 refl)) c.requires
