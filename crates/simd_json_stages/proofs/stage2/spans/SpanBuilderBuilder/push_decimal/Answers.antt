use Rattle.std.proofs.Common.{◌∙◌, ap, sym, subst, refl, map, ◌+◌, ◌∷◌, ◌++◌, [], take, drop, arith}
use Rattle.std.specs.Prelude.{IsUtf8}
use Rattle.std.proofs.lemmas.List.{map-append}
use Rattle.simd_json_parts.specs.Nodes.{decimal_item}
use Rattle.simd_json_stages.specs.Placed.{AreLaid, Placed}
use Rattle.simd_json_stages.proofs.Machine.TextsInPlace.{laid-later, laid-more, lies-there, place-drop, place-later}
use Rattle.simd_json_stages.proofs.stage2.spans.SpanBuilderBuilder.push_decimal.Goals as goal

pub hand_decimal-requires-clause-utf8 : goal.hand_decimal-requires-clause-utf8
hand_decimal-requires-clause-utf8 g c =
    let reads = c.requires.literal.bytes.reads in
    subst IsUtf8 (sym (ap (take c.args.len) (place-drop reads c.args.at reads.before))) c.requires.literal.utf8

pub invariant_of-self : goal.invariant_of-self
invariant_of-self g c =
    let self = c.args.self.now in
    let has = c.requires.literal.bytes in
    let end = c.args.at + c.args.len in
    let literal = take c.args.len (drop c.args.at self.bytes.now) in
    let utf8 : IsUtf8 literal = subst IsUtf8 (sym (ap (take c.args.len) (place-drop has.reads c.args.at has.reads.before)))
    c.requires.literal.utf8 in
    record {
      laid = subst (λ us. AreLaid us end (g.S.SpanSink.placed c.hand_decimal.new.nodes)) (sym c.hand_decimal.ensures.bytes)
          (laid-more _ (laid-later self.laid (omega (arith, has.reads.before)) (omega (arith, has.within, has.reads.size)))
          (lies-there self.bytes.now c.args.at c.args.len end (decimal_item literal) refl (omega arith)
          (omega (arith, has.within, has.reads.size)) utf8) c.hand_decimal.ensures.put);
    }

pub returns-clause-put : goal.returns-clause-put
returns-clause-put g c b reads =
    let item = λ (p : Placed). p.item in
    let nodes = g.S.SpanSink.placed c.args.self.now.nodes.now in
    ap (map item) c.hand_decimal.ensures.put ∙ map-append item nodes _
    ∙ ap (λ us. map item nodes ++ decimal_item us ∷ []) (ap (take c.args.len) (place-drop reads c.args.at reads.before))

pub returns-clause-reads : goal.returns-clause-reads
returns-clause-reads g c b reads =
    let end = c.args.at + c.args.len in
    place-later reads reads.ahead end c.hand_decimal.auto.bytes
    (ap (drop end) c.hand_decimal.ensures.bytes ∙ place-drop reads end (omega (arith, reads.before))) (omega arith) (omega arith)
