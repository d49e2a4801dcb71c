use Rattle.simd_json_scalars.proofs.Numbers.DigitsWorth.{worth-is}
use Rattle.simd_json_scalars.proofs.numberparse.short.value_of_digits.Goals as goal

pub returns-clause-value : goal.returns-clause-value
returns-clause-value c b eight e run = worth-is c.args.word c.args.len b eight e c.requires.most run
