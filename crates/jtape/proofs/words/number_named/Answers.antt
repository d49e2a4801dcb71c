use Rattle.std.proofs.Common.{◌∙◌, sym}
use Rattle.jtape.proofs.NumberWords.{number-read}
use Rattle.jtape.proofs.words.number_named.Goals as goal

pub returns-then-has_digits_alone : goal.returns-then-has_digits_alone
returns-then-has_digits_alone c =
    c.ok.ensures.value ∙ number-read c.args.word.now c.parse.result
    (sym c.has_digits_alone.ensures ∙ c.if-has_digits_alone.true) c.parse.ensures.value.0
