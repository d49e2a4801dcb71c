use Rattle.std.proofs.Common.{◌-◌, arith}
use Rattle.simd_json_parts.proofs.Lists.Moves.{two-stored}
use Rattle.simd_json_scalars.proofs.stringparse.move_few.Goals as goal

pub returns-then-len-lt16 : goal.returns-then-len-lt16
returns-then-len-lt16 c = two-stored c.args.bytes.now c.args.from c.args.to (c.args.end - c.args.from) 8 (c.args.end - 8)
    (omega arith) (omega arith) (omega arith) (omega arith) (omega arith)

pub returns-else-len-lt16 : goal.returns-else-len-lt16
returns-else-len-lt16 c = two-stored c.args.bytes.now c.args.from c.args.to (c.args.end - c.args.from) 16 (c.args.end - 16)
    (omega arith) (omega arith) (omega arith) (omega arith) (omega arith)
