use Rattle.simd_json_serde.proofs.Placing.{placed-in}
use Rattle.simd_json_serde.proofs.in_place.parse_in_place.Goals as goal

pub returns-then-branch-clause-parsed : goal.returns-then-branch-clause-parsed
returns-then-branch-clause-parsed c =
    let r = c.in_ok-keep_spans.ensures.read in placed-in _ _ _ r.0 _ r.1.1.parsed (r.2.0 c.if-branch.true)
