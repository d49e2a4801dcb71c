use Rattle.simd_json_lower_tests.proofs.tests.stage2.tape_of.Given as goal

abbrev pub ghosts-list_of : goal.ghosts-list_of
ghosts-list_of a = record { bytes = a.input.now }
