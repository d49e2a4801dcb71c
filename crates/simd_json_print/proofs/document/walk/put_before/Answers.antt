use Rattle.std.proofs.Common.{refl, ◌≡◌, ◌∙◌, ◌+◌, ◌<◌, ap, suc, subst, map, length, not, nat_eq, arith, rules}
use Rattle.std.proofs.lemmas.List.{length-map}
use Rattle.simd_json_parts.specs.Nodes.{item_of}
use Rattle.simd_json_print.specs.Frames.{IsBetween}
use Rattle.simd_json_parts.specs.Printed.{line}
use Rattle.simd_json_print.proofs.Lead.{leads-by}
use Rattle.simd_json_print.proofs.Lines.{adds-a-line, adds-no-line, adds-front}
use Rattle.simd_json_print.proofs.Nestings.{element-before, member-before}
use Rattle.simd_json_print.proofs.Texts.{adds-then}
use Rattle.simd_json_print.proofs.Walk.{split-first}
use Rattle.simd_json_print.proofs.document.walk.put_before.Goals as goal

pub returns-then-innermost-clause-put : goal.returns-then-innermost-clause-put
returns-then-innermost-clause-put g c levels same =
    let pretty = not (nat_eq g.row.PRETTY 0) in
    let used = c.args.used in
    let names = c.split_at.result.0.now in
    let values = c.split_at.result.1.now in
    let some : 0 < length c.args.left.nodes.now = omega (arith, c.requires.some) in
    let one = split-first c.args.left.nodes.now names values _ _ some refl c.split_at.ensures.front c.split_at.ensures.back in
    let rest : length c.args.left.nodes.now ≡ suc (length (map item_of values)) = search (rules, arith, length-map) in
    record {
      kept = c.put_name.ensures.kept;
      given = λ done root is.
          let at = subst (λ us. IsBetween pretty c.args.depth levels used c.args.is_first us done root) one is in
          let member = member-before pretty c.args.depth levels used root c.args.is_first _ (map item_of values) done at c.requires.nested
          (ap (λ i. i.is_object) same ∙ c.if-innermost.true) (omega (arith, c.requires.some, rest, ap (λ i. i.end) same)) in
          (_, c.put_name.ensures.given member.name member.named, member.at);
    }

pub returns-then-this-ne0-clause-put : goal.returns-then-this-ne0-clause-put
returns-then-this-ne0-clause-put g c levels same =
    let pretty = not (nat_eq g.row.PRETTY 0) in
    let depth = c.args.depth + c.args.used in
    let front = adds-front _ _ _ _ c.front_of.result.now c.front_of.ensures c.put.ensures in
    leads-by _ _ _ _ _ _
    (adds-then _ _ _ _ _ (line pretty depth) front (adds-a-line _ _ depth _ _ c.if-this-ne0.true c.put_new_line.ensures))
    (λ done root is. element-before pretty c.args.depth levels c.args.used root c.args.is_first
    (map item_of c.args.left.nodes.now) done is c.requires.nested (ap (λ i. i.is_object) same ∙ c.if-innermost.false)
    (omega (arith, c.requires.some, length-map c.args.left.nodes.now item_of, ap (λ i. i.end) same)))

pub returns-else-this-ne0-clause-put : goal.returns-else-this-ne0-clause-put
returns-else-this-ne0-clause-put g c levels same =
    let pretty = not (nat_eq g.row.PRETTY 0) in
    let depth = c.args.depth + c.args.used in
    let front = adds-front _ _ _ _ c.front_of.result.now c.front_of.ensures c.put.ensures in
    leads-by _ _ _ _ _ _ (adds-then _ _ _ _ _ (line pretty depth) front (adds-no-line _ _ depth _ c.if-this-ne0.false))
    (λ done root is. element-before pretty c.args.depth levels c.args.used root c.args.is_first
    (map item_of c.args.left.nodes.now) done is c.requires.nested (ap (λ i. i.is_object) same ∙ c.if-innermost.false)
    (omega (arith, c.requires.some, length-map c.args.left.nodes.now item_of, ap (λ i. i.end) same)))
