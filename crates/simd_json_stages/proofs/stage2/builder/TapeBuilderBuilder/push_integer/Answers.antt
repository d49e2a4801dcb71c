use Rattle.std.proofs.Common.{◌+◌, arith}
use Rattle.simd_json_stages.specs.ReadsLater.{reads-kept}
use Rattle.simd_json_stages.proofs.stage2.builder.TapeBuilderBuilder.push_integer.Goals as goal

pub returns-clause-reads : goal.returns-clause-reads
returns-clause-reads g c b reads = reads-kept b c.args.self.now.input.now c.args.at (c.args.at + c.args.len) reads (omega arith)
