use Rattle.std.proofs.Common.{◌∙◌, ◌∷◌, ◌++◌, [], ap, map, suc, refl}
use Rattle.std.proofs.lemmas.List.{map-append}
use Rattle.simd_json_parts.specs.StringAt.{closing_quote}
use Rattle.simd_json_parts.specs.Nodes.{string_item}
use Rattle.simd_json_stages.proofs.stage2.builder.TapeBuilderBuilder.push_string.Goals as goal

pub share_string-string-requires : goal.share_string-string-requires
share_string-string-requires g c =
    let q = c.requires.quoted in
    let asked = c.may_have_escape-may_have_escape.ensures in
    record {
      quoted = record { b = q.b; reads = asked.reads q.b q.reads; string = q.string };
      plain = asked.plain c.if-not-may_have_escape.true q.b q.reads;
    }

pub returns-in-Err-clause-put : goal.returns-in-Err-clause-put
returns-in-Err-clause-put g c b reads string =
    c.in-Err.ensures b _ (c.may_have_escape-may_have_escape.ensures.reads b reads) string

pub returns-clause-put : goal.returns-clause-put
returns-clause-put g c b reads string =
    let item = g.N.FromNode.item in
    let read = c.in-Ok.ensures b _ (c.may_have_escape-may_have_escape.ensures.reads b reads) string in
    record {
      string = c.in-Ok.string.now;
      end = suc (closing_quote b c.args.at);
      node = string_item c.in-Ok.string.now;
      read = read.0;
      item = refl;
      put = ap (map item) c.push_reserved-in-Ok.ensures.items ∙ map-append item _ _
          ∙ ap (λ i. map item c.args.self.now.list.now.items ++ i ∷ []) c.from_node-in-Ok.ensures;
      input = read.1;
    }
