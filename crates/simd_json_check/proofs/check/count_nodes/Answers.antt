use Rattle.std.proofs.Common.{ap, length, sym, subst, min, max, ◌≤◌}
use Rattle.simd_json_stages.proofs.Whole.{nodes-within}
use Rattle.simd_json_check.proofs.check.count_nodes.Goals as goal

pub build_spans-requires-clause-room : goal.build_spans-requires-clause-room
build_spans-requires-clause-room g c =
    let scan = c.requires.scanned in
    nodes-within g.K.Original.bytes (length c.args.scanned.structural_indexes.now) c.args.max_depth scan.whole (ap length scan.positions)

pub build_spans-requires-clause-stack : goal.build_spans-requires-clause-stack
build_spans-requires-clause-stack g c =
    subst (λ n. min n c.args.max_depth ≤ max (length c.args.stack.now) 64) (sym (ap length c.requires.scanned.positions)) c.requires.stack
