use Rattle.std.proofs.Common.{◌∙◌}
use Rattle.simd_json_serde.proofs.Located.{path-in}
use Rattle.simd_json_serde.proofs.Placing.{placed-items}
use Rattle.simd_json_serde.proofs.reading.from_slice_mut_with.Goals as goal

pub returns-clause-path : goal.returns-clause-path
returns-clause-path g c =
    let p = c.in_default.ensures.parsed in
    let listed = placed-items _ _ _ _ _ (c.new.ensures.0 ∙ c.deref.ensures.value) c.new.ensures.1 p.listed in
    path-in _ p.document c.from_nodes_in.result p.denoted (c.from_nodes_in.ensures.path p.document listed)
