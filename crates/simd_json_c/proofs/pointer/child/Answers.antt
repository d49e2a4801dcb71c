use Rattle.std.proofs.Common.{◌+◌, sym, subst, arith, []}
use Rattle.std.specs.Prelude.{unwrap_or}
use Rattle.std.specs.Result.{result_ok}
use Rattle.simd_json_parts.specs.Document.{array, object}
use Rattle.simd_json_parts.specs.Pointed.{member_at, named}
use Rattle.simd_json_c.specs.Placed.{IsFound, IsValueAt, before_member, before_named}
use Rattle.simd_json_c.proofs.Placing.{elements-at, key-is, members-at, value-header, value-some, value-within}
use Rattle.simd_json_c.proofs.pointer.child.Goals as goal

pub returns-then-at-nodes : goal.returns-then-at-nodes
returns-then-at-nodes c d a =
    absurd (omega (arith, c.if-at-nodes.true, value-within c.args.nodes.now c.args.text.now c.args.at d a, value-some d))

pub returns-then-node-eq-ARRAY : goal.returns-then-node-eq-ARRAY
returns-then-node-eq-ARRAY c d a =
    let nodes = c.args.nodes.now in
    let text = c.args.text.now in
    let is = (value-header nodes text c.args.at d _ a).of_array c.if-node-eq-ARRAY.true in
    let under = elements-at nodes text c.args.at is.0 (subst (IsValueAt nodes text c.args.at) is.1 a) in
    let t = c.args.token.now in
    subst (λ e. IsFound nodes text c.element.result (c.args.at + before_named t e) (result_ok (named t e))) (sym is.1)
    (subst (λ i. IsFound nodes text c.element.result i (result_ok (named t (array is.0)))) (omega arith)
    (c.element.ensures text is.0 under is.2))

pub returns-then-node-eq-OBJECT : goal.returns-then-node-eq-OBJECT
returns-then-node-eq-OBJECT c d a =
    let nodes = c.args.nodes.now in
    let text = c.args.text.now in
    let is = (value-header nodes text c.args.at d _ a).of_object c.if-node-eq-OBJECT.true in
    let under = members-at nodes text c.args.at is.0 (subst (IsValueAt nodes text c.args.at) is.1 a) in
    let t = c.args.token.now in
    let found =
    subst (λ u. IsFound nodes text c.member.result (c.args.at + 1 + before_member is.0 (unwrap_or u [])) (result_ok (member_at is.0 u)))
    (key-is c.args.is_plain t c.requires) (c.member.ensures is.0 under is.2) in
    subst (λ e. IsFound nodes text c.member.result (c.args.at + before_named t e) (result_ok (named t e))) (sym is.1)
    (subst (λ i. IsFound nodes text c.member.result i (result_ok (named t (object is.0)))) (omega arith) found)

pub returns : goal.returns
returns c d a =
    (value-header c.args.nodes.now c.args.text.now c.args.at d _ a).of_other c.if-node-eq-ARRAY.false c.if-node-eq-OBJECT.false
    c.args.token.now
