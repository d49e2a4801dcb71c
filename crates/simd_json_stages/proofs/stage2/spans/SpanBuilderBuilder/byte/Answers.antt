use Rattle.std.proofs.Common.{◌∙◌, arith}
use Rattle.std.proofs.lemmas.List.{get_or_default}
use Rattle.simd_json_stages.proofs.Machine.TextsInPlace.{place-byte}
use Rattle.simd_json_stages.proofs.stage2.spans.SpanBuilderBuilder.byte.Goals as goal

pub returns : goal.returns
returns g c b reads = get_or_default c.args.self.now.bytes.now c.args.i 0 32 (omega (arith, c.requires.within, c.requires.reads.size))
    ∙ place-byte reads
