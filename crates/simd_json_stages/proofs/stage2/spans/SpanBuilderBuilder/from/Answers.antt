use Rattle.std.proofs.Common.{◌∙◌}
use Rattle.std.proofs.lemmas.List.{take_rest}
use Rattle.simd_json_stages.proofs.Machine.TextsInPlace.{place-drop}
use Rattle.simd_json_stages.proofs.stage2.spans.SpanBuilderBuilder.from.Goals as goal

pub returns-clause-bytes : goal.returns-clause-bytes
returns-clause-bytes g c b reads = take_rest c.args.self.now.bytes.now c.args.i ∙ place-drop reads c.args.i reads.before
