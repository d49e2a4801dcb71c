use Rattle.std.proofs.Common.{arith}
use Rattle.simd_json_scalars.proofs.Numbers.Steps.{IsMarked, exponent-whole, exponent-part}
use Rattle.simd_json_scalars.proofs.numberparse.plain.exponent_end.Goals as goal

pub returns-then-end-digits : goal.returns-then-end-digits
returns-then-end-digits c =
    let marked : IsMarked c.args.bytes.now c.args.from c.if-matches.digits = record { mark = grind arith; sign = grind arith } in
    exponent-part _ _ _ _ marked c.digits_end-end.ensures.value c.if-end-digits.true

pub returns-else-end-digits : goal.returns-else-end-digits
returns-else-end-digits c =
    let marked : IsMarked c.args.bytes.now c.args.from c.if-matches.digits = record { mark = grind arith; sign = grind arith } in
    exponent-whole _ _ _ _ marked c.digits_end-end.ensures.value (omega arith)
