use Rattle.std.proofs.Common.{◌≤◌, length, arith}
use Rattle.simd_json_scalars.proofs.Numbers.Values.{integer-AllDigits, short-in_range, number_at-numeral}
use Rattle.simd_json_scalars.proofs.numberparse.integers.integer.Goals as goal

pub short_magnitude-requires-clause-digits : goal.short_magnitude-requires-clause-digits
short_magnitude-requires-clause-digits c = rw c.byte_or_space-minus.ensures (integer-AllDigits c.args.literal.now c.requires)

pub returns : goal.returns
returns c b i rest e t =
    let xs = c.args.literal.now in
    let value = rw c.byte_or_space-minus.ensures at c.short_magnitude.ensures in
    let short : length xs ≤ 19 = omega arith in
    number_at-numeral b i xs rest e t c.requires c.short_magnitude.result value (rw (← value) at (short-in_range xs c.requires short))
