use Rattle.simd_json_scalars.proofs.Numbers.DigitRuns.{mask-non_digits}
use Rattle.simd_json_scalars.proofs.numberparse.look.non_digits.Goals as goal

pub returns : goal.returns
returns c = mask-non_digits c.args.bytes c.fits-bytes.0 c.fits-bytes.1
