use Rattle.simd_json_serde.proofs.reading.from_nodes.Goals as goal

pub returns-clause-path : goal.returns-clause-path
returns-clause-path g c d listed = c.finish.ensures.path d (c.located.ensures.path d listed)
