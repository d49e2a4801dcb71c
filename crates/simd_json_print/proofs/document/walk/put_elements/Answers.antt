use Rattle.std.proofs.Common.{◌∙◌, ◌<◌, ap, length, not, nat_eq, arith, rules, length-drop}
use Rattle.simd_json_print.proofs.Lead.{leads-by, leads-none, leads-then}
use Rattle.simd_json_print.proofs.Nestings.{element-step}
use Rattle.simd_json_print.proofs.document.walk.put_elements.Goals as goal

pub loop-left-init : goal.loop-left-init
loop-left-init g c = (omega arith, λ levels same. leads-none _ _ _ _ (λ done root is. is))

pub loop-left-preserved : goal.loop-left-preserved
loop-left-preserved g c =
    let pretty = not (nat_eq g.row.PRETTY 0) in
    let l = c.loop-left in
    let s = c.split_at in
    let live : c.args.innermost.end < length l.left.nodes.now = search (rules, arith) in (
      omega (arith, l.invariant.0, ap length s.ensures.back, length-drop 1 l.left.nodes.now),
      λ levels same. leads-then _ _ _ _ _ _ _ (l.invariant.1 levels same)
          (leads-by _ _ _ _ _ _ c.put_element.ensures (λ done root is.
          element-step pretty c.args.depth levels c.args.used root l.is_still_first l.left.nodes.now s.result.0.now s.result.1.now _ _ done
          (search (rules, arith)) s.ensures.front s.ensures.back c.count.ensures (search (rules, arith)) c.requires.nested
          (ap (λ i. i.is_object) same ∙ c.if-innermost.false) (omega (arith, live, ap (λ i. i.end) same)) is)),
    )

pub returns-then-innermost-clause-put : goal.returns-then-innermost-clause-put
returns-then-innermost-clause-put g c levels same = leads-none _ _ _ _ (λ done root is. is)
