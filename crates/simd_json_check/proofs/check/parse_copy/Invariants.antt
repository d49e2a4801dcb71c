use Rattle.simd_json_check.proofs.check.parse_copy.Given as goal

abbrev pub ghosts-count_nodes : goal.ghosts-count_nodes
ghosts-count_nodes g a = record { bytes = a.input.now }
