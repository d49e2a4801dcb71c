use Rattle.std.proofs.Common.{◌≡◌, ◌∙◌, ◌+◌, ◌++◌, ap, sym, length, take, arith}
use Rattle.std.proofs.lemmas.Fmt.{decimal_digit}
use Rattle.std.proofs.lemmas.List.{take_more_set}
use Rattle.std.specs.Fmt.{decimal}
use Rattle.simd_json_print.proofs.Decimals.{digits-count, stored-digits}
use Rattle.simd_json_print.proofs.text.collected.store_digits.Goals as goal

pub returns-then-number-lt10-clause-end : goal.returns-then-number-lt10-clause-end
returns-then-number-lt10-clause-end c = ap (λ us. c.args.at + length us) (sym (decimal_digit c.args.number c.if-number-lt10.true))

pub returns-then-number-lt10-clause-stored : goal.returns-then-number-lt10-clause-stored
returns-then-number-lt10-clause-stored c =
    take_more_set c.args.all.now c.args.at (48 + c.args.number) (omega arith)
    ∙ ap (λ us. take c.args.at c.args.all.now ++ us) (sym (decimal_digit c.args.number c.if-number-lt10.true))

pub write_digits-requires : goal.write_digits-requires
write_digits-requires c =
    let digits = digits-count c.ilog10.result c.args.number c.ilog10.ensures.power_le c.ilog10.ensures.next_power_gt c.ranges.number.fits in
    (omega (arith, digits), omega arith)

pub returns-clause-end : goal.returns-clause-end
returns-clause-end c =
    let digits = digits-count c.ilog10.result c.args.number c.ilog10.ensures.power_le c.ilog10.ensures.next_power_gt c.ranges.number.fits in
    omega (arith, digits)

pub returns-clause-stored : goal.returns-clause-stored
returns-clause-stored c =
    let w = c.write_digits in
    let digits = digits-count c.ilog10.result c.args.number c.ilog10.ensures.power_le c.ilog10.ensures.next_power_gt c.ranges.number.fits in
    let count : c.args.at + c.ilog10.result + 1 ≡ c.args.at + length (decimal c.args.number) = omega (arith, digits) in
    stored-digits c.args.all.now w.new.buf
    (decimal c.args.number) c.args.at w.result _ w.ensures.start count w.ensures.written w.ensures.before
