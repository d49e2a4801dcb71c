use Rattle.simd_json_stages.specs.Building.{header_of}
use Rattle.simd_json_stages.proofs.Machine.TextsInPlace.{laid-more, no-text, no-header-text}
use Rattle.simd_json_stages.proofs.stage2.spans.SpanBuilderBuilder.push_header.Goals as goal

pub invariant_of-self : goal.invariant_of-self
invariant_of-self g c =
    let self = c.args.self.now in
    record {
      laid = laid-more _ self.laid (no-text self.bytes.now self.at (header_of c.args.container 0 0)
          (no-header-text c.args.container 0 0)) c.push_header.ensures.put;
    }
