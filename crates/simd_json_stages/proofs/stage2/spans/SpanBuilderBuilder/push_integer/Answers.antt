use Rattle.std.proofs.Common.{◌∙◌, ap, sym, subst, ◌+◌, take, drop, arith}
use Rattle.std.specs.Prelude.{IsUtf8}
use Rattle.simd_json_parts.specs.Nodes.{static_item}
use Rattle.simd_json_stages.specs.Placed.{AreLaid, IsTextOf}
use Rattle.simd_json_stages.proofs.Machine.TextsInPlace.{laid-later, laid-more, lies-there, long-text, no-short-text, no-text}
use Rattle.simd_json_stages.proofs.Machine.TextsInPlace.{place-drop, place-later}
use Rattle.simd_json_stages.proofs.stage2.spans.SpanBuilderBuilder.push_integer.Goals as goal

pub hand_long-requires-clause-utf8 : goal.hand_long-requires-clause-utf8
hand_long-requires-clause-utf8 g c =
    let asked = c.requires.literal in
    let reads = asked.string.bytes.reads in
    subst IsUtf8 (sym (ap (take c.args.len) (place-drop reads c.args.at reads.before))) asked.string.utf8

pub hand_long-requires-clause-literal : goal.hand_long-requires-clause-literal
hand_long-requires-clause-literal g c =
    let asked = c.requires.literal in
    let reads = asked.string.bytes.reads in
    let long = sym c.is_long.ensures ∙ c.if-is_long.true in
    subst (IsTextOf (static_item c.args.value)) (sym (ap (take c.args.len) (place-drop reads c.args.at reads.before)))
    (long-text c.args.value _ long asked.matched asked.is)

pub invariant_of-self : goal.invariant_of-self
invariant_of-self g c =
    let self = c.args.self.now in
    let asked = c.requires.literal in
    let has = asked.string.bytes in
    let end = c.args.at + c.args.len in
    let same = sym (ap (take c.args.len) (place-drop has.reads c.args.at has.reads.before)) in
    record {
      laid = subst (λ us. AreLaid us end (g.S.SpanSink.placed c.hand_long.new.nodes)) (sym c.hand_long.ensures.bytes)
          (laid-more _ (laid-later self.laid (omega (arith, has.reads.before)) (omega (arith, has.within, has.reads.size)))
          (lies-there self.bytes.now c.args.at c.args.len end (static_item c.args.value)
          (subst (IsTextOf (static_item c.args.value)) same
          (long-text c.args.value _ (sym c.is_long.ensures ∙ c.if-is_long.true) asked.matched asked.is))
          (omega arith) (omega (arith, has.within, has.reads.size)) (subst IsUtf8 same asked.string.utf8)) c.hand_long.ensures.put);
    }

pub invariant_of-self-else-is_long : goal.invariant_of-self-else-is_long
invariant_of-self-else-is_long g c =
    let self = c.args.self.now in
    record {
      laid = laid-more _ self.laid (no-text self.bytes.now self.at (static_item c.args.value)
          (no-short-text c.args.value (sym c.is_long.ensures ∙ c.if-is_long.false))) c.push_static.ensures.put;
    }

pub returns-then-is_long-clause-reads : goal.returns-then-is_long-clause-reads
returns-then-is_long-clause-reads g c b reads =
    let end = c.args.at + c.args.len in
    place-later reads reads.ahead end c.hand_long.auto.bytes
    (ap (drop end) c.hand_long.ensures.bytes ∙ place-drop reads end (omega (arith, reads.before))) (omega arith) (omega arith)
