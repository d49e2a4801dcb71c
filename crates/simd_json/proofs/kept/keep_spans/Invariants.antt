use Rattle.std.proofs.Common.{[]}
use Rattle.std.specs.Vec.{vec_capacity}
use Rattle.simd_json.proofs.kept.keep_spans.Given as goal

abbrev pub ghost-of : goal.ghost-of
ghost-of g a = record { placed = []; node_capacity = vec_capacity a.seen.now.now }
