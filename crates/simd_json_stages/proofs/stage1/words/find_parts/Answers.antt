use Rattle.simd_json_stages.proofs.Scan.BlockWords.{parts-found}
use Rattle.simd_json_stages.proofs.stage1.words.find_parts.Goals as goal

pub returns : goal.returns
returns c = λ b i. parts-found b i c.args.space_or_quote c.args.op_or_quote c.args.control c.args.escaped
