use Rattle.simd_json_serde.proofs.reading.finish.Goals as goal

pub returns-then-is_err-clause-path : goal.returns-then-is_err-clause-path
returns-then-is_err-clause-path g c d read = c.no_memory.ensures.path d
