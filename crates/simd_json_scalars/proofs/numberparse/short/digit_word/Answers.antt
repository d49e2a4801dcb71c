use Rattle.std.proofs.Common.{◌+◌, ap, get_or, arith}
use Rattle.simd_json_scalars.proofs.Numbers.DigitWords.{eight-at, word-at}
use Rattle.simd_json_scalars.proofs.numberparse.short.digit_word.Goals as goal

pub returns-clause-word : goal.returns-clause-word
returns-clause-word c =
    let l = c.args.bytes.now in
    word-at l c.args.at (λ k. (c.type_inv.bytes k).fits) c.requires c.from_le_bytes.result
    (omega (arith, c.from_le_bytes.ensures, ap (λ k. get_or l k 0) {x = c.args.at + 0} {y = c.args.at} (omega arith)))

pub returns-clause-bytes : goal.returns-clause-bytes
returns-clause-bytes c = eight-at c.args.bytes.now c.args.at (λ k. (c.type_inv.bytes k).fits) c.requires
