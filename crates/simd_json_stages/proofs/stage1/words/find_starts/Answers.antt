use Rattle.simd_json_stages.proofs.Scan.BlockWords.{starts-found}
use Rattle.simd_json_stages.proofs.stage1.words.find_starts.Goals as goal

pub returns : goal.returns
returns c = λ b i parts control carried. starts-found b i c.args.parts c.args.control c.args.carry parts control carried
