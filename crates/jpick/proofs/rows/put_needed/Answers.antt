use Rattle.std.proofs.Common.{arith, rules}
use Rattle.jpick.proofs.Enough.{frames-grow}
use Rattle.jpick.proofs.rows.put_needed.Goals as goal

pub put_within-requires : goal.put_within-requires
put_within-requires g c =
    (search rules, frames-grow c.args.wanted.now.queries.now c.frames-count.result 0 (omega arith) c.frames-count.ensures)

pub put_by_few-requires : goal.put_by_few-requires
put_by_few-requires g c =
    (search rules, frames-grow c.args.wanted.now.queries.now c.frames-count.result 8 (omega arith) c.frames-count.ensures)
