use Rattle.std.proofs.Common.{◌≡◌, ◌∙◌, ap, sym, subst, ◌+◌, ◌-◌, ◌∷◌, ◌++◌, [], length, take, drop, refl, arith}
use Rattle.std.specs.Prelude.{IsUtf8}
use Rattle.std.proofs.lemmas.List.{drop-drop, length-drop, length-take-le, take_rest}
use Rattle.simd_json_parts.specs.Nodes.{string_item}
use Rattle.simd_json_stages.specs.Placed.{placed_at}
use Rattle.simd_json_stages.proofs.Machine.TextsInPlace.{drop-part}
use Rattle.simd_json_stages.proofs.stage2.spans.decode_to.Goals as goal

pub hand_string-requires-clause-utf8 : goal.hand_string-requires-clause-utf8
hand_string-requires-clause-utf8 g c =
    let bs = c.args.bytes.now in
    let at = c.args.at in
    let new = c.decode_str.new.unread in
    let d = c.in-Ok.ensures.string bs at (sym (take_rest bs at)) in
    subst (λ us. IsUtf8 (take (c.in-Ok.decoded.end - 1) us))
    (sym (sym (drop-drop 1 at _) ∙ ap (drop 1) (drop-part at _ bs new (omega arith) refl (omega (arith, c.decode_str.auto.unread))))) d.utf8

pub returns-in-Ok-clause-decoded : goal.returns-in-Ok-clause-decoded
returns-in-Ok-clause-decoded g c b is =
    let bs = c.args.bytes.now in
    let at = c.args.at in
    let end = c.in-Ok.decoded.end in
    let len = c.in-Ok.decoded.len in
    let new = c.decode_str.new.unread in
    let after = c.hand_string.new.bytes in
    let d = c.in-Ok.ensures.string b at (is ∙ sym (take_rest bs at)) in
    let part : drop at after ≡ new =
    ap (drop at) c.hand_string.ensures.bytes ∙ drop-part at _ bs new (omega arith) refl (omega (arith, c.decode_str.auto.unread)) in
    let text : take (end - 1) (drop (at + 1) after) ≡ take (end - 1) (drop 1 new) =
    ap (take (end - 1)) (sym (drop-drop 1 at after) ∙ ap (drop 1) part) in
    let size : length (take (end - 1) (drop 1 new)) ≡ end - 1 = length-take-le (end - 1) (drop 1 new)
    (omega (arith, length-drop 1 new, c.in-Ok.ensures.within)) in
    record {
      string = take (end - 1) (drop 1 new);
      read = d.string;
      put = c.hand_string.ensures.put
          ∙ ap (λ us. g.S.SpanSink.placed c.args.nodes.now ++ placed_at (at + 1) us (string_item us) ∷ [])
          (ap (λ us. take (end - 1) (drop (at + 1) us)) (sym c.hand_string.ensures.bytes) ∙ text);
      there = ap (λ n. take n (drop (at + 1) after)) size ∙ text;
      utf8 = d.utf8;
      before = omega (arith, size, c.in-Ok.ensures.within);
      within = omega (arith, c.in-Ok.ensures.within, c.decode_str.auto.unread, c.hand_string.auto.bytes);
      rest = sym (drop-drop len at after) ∙ ap (drop len) part ∙ d.rest;
    }
