use Rattle.simd_json_scalars.proofs.Numbers.DigitWords.{run-is}
use Rattle.simd_json_scalars.proofs.numberparse.short.digits_len.Goals as goal

pub returns-clause-run : goal.returns-clause-run
returns-clause-run c b eight e = rw e (run-is 8 b eight.0 eight.1)
