use Rattle.std.proofs.Common.{◌∙◌, ap, map}
use Rattle.std.proofs.lemmas.List.{map-set}
use Rattle.simd_json_stages.specs.Building.{header_of}
use Rattle.simd_json_stages.specs.Placed.{Placed}
use Rattle.simd_json_stages.proofs.Machine.TextsInPlace.{laid-set, no-text, no-header-text}
use Rattle.simd_json_stages.proofs.stage2.spans.SpanBuilderBuilder.set_counts.Goals as goal

pub invariant_of-self : goal.invariant_of-self
invariant_of-self g c =
    let self = c.args.self.now in
    record {
      laid = laid-set c.args.header _ self.laid (no-text self.bytes.now self.at (header_of c.args.container c.args.len c.args.count)
          (no-header-text c.args.container c.args.len c.args.count)) c.set_counts.ensures.patched;
    }

pub returns-clause-patched : goal.returns-clause-patched
returns-clause-patched g c =
    ap (map (λ (p : Placed). p.item)) c.set_counts.ensures.patched
    ∙ map-set (λ (p : Placed). p.item) (g.S.SpanSink.placed c.args.self.now.nodes.now) c.args.header _
