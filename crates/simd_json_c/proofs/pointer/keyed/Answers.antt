use Rattle.std.proofs.Common.{◌+◌, sym, subst, arith}
use Rattle.simd_json_parts.specs.Views.{first_with, get}
use Rattle.simd_json_parts.specs.declared.pointer.PointerExpected.TheVariants as lacking
use Rattle.simd_json_parts.proofs.Pointers.Pointed.{ok-or}
use Rattle.simd_json_c.specs.Placed.{IsFound, IsValueAt, before_get, before_member}
use Rattle.simd_json_c.proofs.Placing.{members-at, value-header, value-some, value-within}
use Rattle.simd_json_c.proofs.pointer.keyed.Goals as goal

pub returns-then-at-nodes : goal.returns-then-at-nodes
returns-then-at-nodes c d a =
    absurd (omega (arith, c.if-at-nodes.true, value-within c.args.nodes.now c.args.text.now c.args.at d a, value-some d))

pub returns-then-node-ne-OBJECT : goal.returns-then-node-ne-OBJECT
returns-then-node-ne-OBJECT c d a =
    (value-header c.args.nodes.now c.args.text.now c.args.at d _ a).keyless c.if-node-ne-OBJECT.true c.args.key.now

pub returns : goal.returns
returns c d a =
    let nodes = c.args.nodes.now in
    let text = c.args.text.now in
    let key = c.args.key.now in
    let is = (value-header nodes text c.args.at d _ a).of_object (omega (arith, c.if-node-ne-OBJECT.false)) in
    let under = members-at nodes text c.args.at is.0 (subst (IsValueAt nodes text c.args.at) is.1 a) in
    let found =
    subst (λ v. IsFound nodes text c.member.result (c.args.at + 1 + before_member is.0 key) v) (ok-or (first_with key is.0) lacking.Key)
    (c.member.ensures is.0 under is.2) in
    subst (λ e. IsFound nodes text c.member.result (c.args.at + before_get key e) (get key e)) (sym is.1)
    (subst (λ i. IsFound nodes text c.member.result i (first_with key is.0)) (omega arith) found)
