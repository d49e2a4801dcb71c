use Rattle.std.proofs.Common.{arith}
use Rattle.simd_json_stages.proofs.Machine.EscapesPassed.{one-passed}
use Rattle.simd_json_stages.proofs.stage2.escapes.passed.Goals as goal

pub loop-next-preserved : goal.loop-next-preserved
loop-next-preserved c b h = one-passed b c.args.at c.args.blocks.now c.loop-next.next (c.loop-next.invariant b h)
    c.loop-next-test.true (omega arith)
