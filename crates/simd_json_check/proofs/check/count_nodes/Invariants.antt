use Rattle.std.proofs.Common.{[]}
use Rattle.simd_json_check.proofs.check.count_nodes.Given as goal

abbrev pub ghost-of : goal.ghost-of
ghost-of g a = record { placed = []; node_capacity = 0 }
