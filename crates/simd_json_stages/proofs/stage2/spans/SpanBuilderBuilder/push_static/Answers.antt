use Rattle.simd_json_parts.specs.Nodes.{static_item}
use Rattle.simd_json_stages.proofs.Machine.TextsInPlace.{laid-more, no-short-text, no-text}
use Rattle.simd_json_stages.proofs.stage2.spans.SpanBuilderBuilder.push_static.Goals as goal

pub invariant_of-self : goal.invariant_of-self
invariant_of-self g c =
    let self = c.args.self.now in
    record {
      laid = laid-more _ self.laid (no-text self.bytes.now self.at (static_item c.args.value)
          (no-short-text c.args.value c.requires.short)) c.push_static.ensures.put;
    }
