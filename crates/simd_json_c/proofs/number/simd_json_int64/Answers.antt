use Rattle.std.proofs.Common.{arith, rules, w32}
use Rattle.std.proofs.lemmas.Int.{to_z-of_z}
use mir.Val.{SFits}
use Rattle.simd_json_c.proofs.Numbers.{int64-put}
use Rattle.simd_json_c.proofs.Placing.{node-at, within-at}
use Rattle.simd_json_c.proofs.number.simd_json_int64.Goals as goal

pub returns-then-at-nodes-clause-number : goal.returns-then-at-nodes-clause-number
returns-then-at-nodes-clause-number c text item rest are =
    absurd (omega (arith, c.if-at-nodes.true, within-at c.args.nodes.now text c.args.at item rest are))

pub returns-clause-number : goal.returns-clause-number
returns-clause-number c text item rest are =
    let fits : SFits w32 c.put_int64.result = search rules in
    let put = c.put_int64.ensures in
    rw to_z-of_z
    (int64-put text _ _ _ _ item (node-at c.args.nodes.now text c.args.at item rest _ are)
    put.signed put.unsigned put.great put.literal put.other)
