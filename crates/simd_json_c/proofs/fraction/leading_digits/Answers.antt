use Rattle.std.proofs.Common.{◌∙◌, ap, arith, take-take}
use Rattle.std.specs.Char.{is_ascii_digit}
use Rattle.std.specs.Str.Parse.{digits_value}
use Rattle.std.proofs.lemmas.List.Sums.{prefix_len-le-length}
use Rattle.simd_json_c.proofs.fraction.leading_digits.Goals as goal

pub returns-then-bytes-lt8-clause-most : goal.returns-then-bytes-lt8-clause-most
returns-then-bytes-lt8-clause-most c =
    omega (arith, c.few_digits.ensures.run, prefix_len-le-length is_ascii_digit c.args.bytes.now)

pub returns-clause-value : goal.returns-clause-value
returns-clause-value c =
    let w = c.digit_word-word.ensures in
    c.value_of_digits.ensures.value _ w.bytes w.word (omega (arith, c.digits_len-len.ensures.run _ w.bytes w.word))
    ∙ ap (digits_value 10) (take-take c.digits_len-len.result 8 c.args.bytes.now c.digits_len-len.ensures.most)
