use Rattle.std.proofs.Common.{subst, arith}
use Rattle.simd_json_c.specs.Placed.{IsFound}
use Rattle.simd_json_c.proofs.Placing.{value-some, value-within}
use Rattle.simd_json_c.proofs.pointer.index_or_none.Goals as goal

pub returns-in_default-clause-named : goal.returns-in_default-clause-named
returns-in_default-clause-named c text place value is =
    let nodes = c.args.nodes.now in
    let f = subst (λ r. IsFound nodes text r place value) c.in-Some.is is in
    absurd (omega (arith, c.if-found-nodes.false, value-within nodes text c.in-Some.found f.0 f.3, value-some f.0))
