use Rattle.std.proofs.Common.{ap, arith, Some}
use Rattle.simd_json_c.proofs.Placing.{value-len, value-some, value-within}
use Rattle.simd_json_c.proofs.pointer.after.Goals as goal

pub returns-then-at-nodes : goal.returns-then-at-nodes
returns-then-at-nodes c text d a =
    absurd (omega (arith, c.if-at-nodes.true, value-within c.args.nodes.now text c.args.at d a, value-some d))

pub returns-then-beneath-nodes : goal.returns-then-beneath-nodes
returns-then-beneath-nodes c text d a =
    let b = c.beneath-beneath.ensures in
    absurd (omega (
      arith,
      value-len c.args.nodes.now text c.args.at d _ c.beneath-beneath.result a b.header b.other,
      value-within c.args.nodes.now text c.args.at d a,
    ))

pub returns : goal.returns
returns c text d a =
    let b = c.beneath-beneath.ensures in
    ap Some (omega (arith, value-len c.args.nodes.now text c.args.at d _ c.beneath-beneath.result a b.header b.other))
