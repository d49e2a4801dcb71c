use Rattle.simd_json.proofs.spans.fill_spans.Given as goal

abbrev pub ghosts-build_spans : goal.ghosts-build_spans
ghosts-build_spans g a = record { bytes = a.input.now }
