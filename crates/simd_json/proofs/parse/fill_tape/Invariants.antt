use Rattle.simd_json.proofs.parse.fill_tape.Given as goal

abbrev pub ghosts-build : goal.ghosts-build
ghosts-build g a = record { bytes = a.s.now }
