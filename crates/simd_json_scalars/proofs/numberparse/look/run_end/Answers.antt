use Rattle.simd_json_scalars.proofs.Numbers.DigitRuns.{run_end-is}
use Rattle.simd_json_scalars.proofs.numberparse.look.run_end.Goals as goal

pub returns : goal.returns
returns c b long mask inside = run_end-is c.args.stops c.args.from b c.requires long mask inside
