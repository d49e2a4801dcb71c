use Rattle.std.proofs.Common.{◌∙◌, ◌≤◌, ap, arith}
use Rattle.std.specs.Char.{is_ascii_digit}
use Rattle.std.specs.List.{prefix_len}
use Rattle.std.specs.Str.Parse.{digits_value}
use Rattle.simd_json_c.proofs.DigitTails.{tail, tail-digits, tail-eight, tail-front, tail-word}
use Rattle.simd_json_c.proofs.fraction.digits_behind.Goals as goal

pub returns-clause-value : goal.returns-clause-value
returns-clause-value c b eight e =
    let j = c.args.skipped in
    let bytes = tail-eight b j eight c.requires in
    let word = tail-word b j eight c.requires c.args.word e in
    let run = c.digits_len.ensures.run (tail b j) bytes word in
    let all : 8 ≤ prefix_len is_ascii_digit (tail b j) = omega (arith, run, c.if-digits_len-lt8.false) in (
      tail-digits b j eight c.requires all,
      c.value_of_digits.ensures.value (tail b j) bytes word (omega (arith, all))
          ∙ ap (digits_value 10) (tail-front b j eight c.requires),
    )
