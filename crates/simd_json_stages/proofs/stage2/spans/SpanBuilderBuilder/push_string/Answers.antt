use Rattle.std.proofs.Common.{◌∙◌, ap, sym, subst, refl, map, suc, ◌+◌, ◌-◌, ◌<◌, length, take, drop, arith}
use Rattle.std.specs.Prelude.{IsUtf8}
use Rattle.std.proofs.lemmas.List.{map-append}
use Rattle.std.proofs.lemmas.Str.{is_utf8-from_IsUtf8}
use Rattle.simd_json_parts.specs.Bytes.{byte_at}
use Rattle.simd_json_parts.specs.Nodes.{string_item}
use Rattle.simd_json_parts.specs.StringAt.{closing_quote}
use Rattle.simd_json_stages.specs.Placed.{AreLaid, Placed}
use Rattle.simd_json_stages.proofs.Machine.InputLaws.{closes-here, opening-here, plain-string, plain-utf8, shared-slice}
use Rattle.simd_json_stages.proofs.Machine.TextsInPlace.{laid-kept, laid-later, laid-more, lies-there, place-drop, place-later}
use Rattle.simd_json_stages.proofs.stage2.spans.SpanBuilderBuilder.push_string.Goals as goal

pub closing-closing-requires : goal.closing-closing-requires
closing-closing-requires g c =
    let q = c.requires.quoted in
    record { b = q.b; reads = sym (place-drop q.reads c.args.at q.reads.before); string = q.string }

pub overflow_sub-closing : goal.overflow_sub-closing
overflow_sub-closing g c =
    let q = c.requires.quoted in
    omega (arith, c.closing-closing.ensures q.b (sym (place-drop q.reads c.args.at q.reads.before)) q.string, q.string.later)

pub hand_string-requires-clause-within : goal.hand_string-requires-clause-within
hand_string-requires-clause-within g c =
    let q = c.requires.quoted in
    omega (
      arith,
      c.closing-closing.ensures q.b (sym (place-drop q.reads c.args.at q.reads.before)) q.string,
      q.string.later,
      q.string.closed,
      q.string.within,
      q.reads.size,
    )

pub hand_string-requires-clause-utf8 : goal.hand_string-requires-clause-utf8
hand_string-requires-clause-utf8 g c =
    let q = c.requires.quoted in
    let at = c.args.at in
    let closing = c.closing-closing.ensures q.b (sym (place-drop q.reads at q.reads.before)) q.string in
    let plain = c.escapes_ahead-may_have_escape.ensures.plain c.if-not-may_have_escape.true q.b q.reads in
    subst IsUtf8 (sym (ap (take (c.closing-closing.result - (at + 1))) (place-drop q.reads (at + 1) (omega (arith, q.reads.before)))
    ∙ shared-slice q.b q.b at c.args.end _ q.string refl closing)) (plain-utf8 q.b at c.args.end q.string plain)

pub invariant_of-self-then-not-may_have_escape : goal.invariant_of-self-then-not-may_have_escape
invariant_of-self-then-not-may_have_escape g c =
    let q = c.requires.quoted in
    let self = c.args.self.now in
    let at = c.args.at in
    let end = c.closing-closing.result in
    let closing = c.closing-closing.ensures q.b (sym (place-drop q.reads at q.reads.before)) q.string in
    let plain = c.escapes_ahead-may_have_escape.ensures.plain c.if-not-may_have_escape.true q.b q.reads in
    let string = take (end - (at + 1)) (drop (at + 1) self.bytes.now) in
    let utf8 : IsUtf8 string = subst IsUtf8 (sym (ap (take (end - (at + 1))) (place-drop q.reads (at + 1) (omega (arith, q.reads.before)))
    ∙ shared-slice q.b q.b at c.args.end _ q.string refl closing)) (plain-utf8 q.b at c.args.end q.string plain) in
    record {
      laid = subst (λ us. AreLaid us end (g.S.SpanSink.placed c.hand_string.new.nodes)) (sym c.hand_string.ensures.bytes)
          (laid-more _ (laid-later self.laid (omega (arith, q.reads.before, closing, q.string.later))
          (omega (arith, closing, q.string.closed, q.string.within, q.reads.size)))
          (lies-there self.bytes.now (at + 1) (end - (at + 1)) end (string_item string) refl (omega (arith, closing, q.string.later))
          (omega (arith, closing, q.string.closed, q.string.within, q.reads.size)) utf8) c.hand_string.ensures.put);
    }

pub returns-then-not-may_have_escape-clause-put : goal.returns-then-not-may_have_escape-clause-put
returns-then-not-may_have_escape-clause-put g c b reads string =
    let at = c.args.at in
    let end = c.closing-closing.result in
    let item = λ (p : Placed). p.item in
    let closing = c.closing-closing.ensures b (sym (place-drop reads at reads.before)) string in
    let plain = c.escapes_ahead-may_have_escape.ensures.plain c.if-not-may_have_escape.true b reads in
    let asked = c.escapes_ahead-may_have_escape.ensures.reads b reads in
    let text = take (end - (at + 1)) (drop (at + 1) c.args.self.now.bytes.now) in
    record {
      string = text;
      end = suc (closing_quote b at);
      node = string_item text;
      read = plain-string b at c.args.end string plain text (ap (take (end - (at + 1)))
          (place-drop reads (at + 1) (omega (arith, reads.before)))
          ∙ shared-slice b b at c.args.end _ string refl closing);
      item = refl;
      put = ap (map item) c.hand_string.ensures.put ∙ map-append item (g.S.SpanSink.placed c.args.self.now.nodes.now) _;
      input = place-later reads asked.ahead (suc (closing_quote b at)) c.hand_string.auto.bytes
          (ap (drop end) c.hand_string.ensures.bytes ∙ place-drop reads end (omega (arith, reads.before, closing, string.later)))
          (omega (arith, closing)) (omega (arith, string.later));
    }

pub decode_to-requires-clause-opening : goal.decode_to-requires-clause-opening
decode_to-requires-clause-opening g c =
    let q = c.requires.quoted in
    ap (λ us. byte_at us 0) (place-drop q.reads c.args.at q.reads.before) ∙ opening-here q.b c.args.at c.args.end q.string

pub decode_to-requires-clause-closing : goal.decode_to-requires-clause-closing
decode_to-requires-clause-closing g c =
    let q = c.requires.quoted in
    subst (λ us. closing_quote us 0 < length us) (sym (place-drop q.reads c.args.at q.reads.before))
    (closes-here q.b c.args.at c.args.end q.string)

pub decode_to-requires-clause-utf8 : goal.decode_to-requires-clause-utf8
decode_to-requires-clause-utf8 g c =
    let q = c.requires.quoted in
    subst IsUtf8 (sym (place-drop q.reads c.args.at q.reads.before)) q.string.utf8

pub invariant_of-self-in-Ok : goal.invariant_of-self-in-Ok
invariant_of-self-in-Ok g c =
    let q = c.requires.quoted in
    let self = c.args.self.now in
    let d = c.in-Ok.ensures.decoded q.b (sym (place-drop q.reads c.args.at q.reads.before)) in
    record {
      laid = laid-more _ (laid-later (laid-kept c.args.at self.laid q.reads.before c.in-Ok.ensures.before c.decode_to.auto.bytes)
          (omega (arith, q.reads.before, d.before)) d.within)
          (record { before = d.before; there = d.there; is_text = ∣ refl ∣₁; utf8 = is_utf8-from_IsUtf8 _ d.utf8 }) d.put;
    }

pub invariant_of-self-in-Err-1 : goal.invariant_of-self-in-Err-1
invariant_of-self-in-Err-1 g c =
    let q = c.requires.quoted in
    let self = c.args.self.now in
    let left = c.in-Err.ensures.decoded q.b (sym (place-drop q.reads c.args.at q.reads.before)) in
    record {
      laid = subst (AreLaid c.decode_to.new.bytes self.at) (sym left.0)
          (laid-kept c.args.at self.laid q.reads.before c.in-Err.ensures.before c.decode_to.auto.bytes);
    }

pub returns-in-Err-clause-put : goal.returns-in-Err-clause-put
returns-in-Err-clause-put g c b reads string = (c.in-Err.ensures.decoded b (sym (place-drop reads c.args.at reads.before))).1

pub returns-clause-put : goal.returns-clause-put
returns-clause-put g c b reads string =
    let item = λ (p : Placed). p.item in
    let d = c.in-Ok.ensures.decoded b (sym (place-drop reads c.args.at reads.before)) in
    record {
      string = d.string;
      end = c.in-Ok.after;
      node = string_item d.string;
      read = d.read;
      item = refl;
      put = ap (map item) d.put ∙ map-append item (g.S.SpanSink.placed c.args.self.now.nodes.now) _;
      input = place-later reads (c.escapes_ahead-may_have_escape.ensures.reads b reads).ahead c.in-Ok.after c.decode_to.auto.bytes d.rest
          (omega arith) (omega (arith, d.before));
    }
