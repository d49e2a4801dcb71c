use Rattle.std.proofs.Common.{arith}
use Rattle.simd_json_ondemand.proofs.Counting.{span-container, span-other}
use Rattle.simd_json_ondemand.proofs.skip.skip.Goals as goal

pub returns-then-input-indexes-eq123-clause-passed : goal.returns-then-input-indexes-eq123-clause-passed
returns-then-input-indexes-eq123-clause-passed c =
    let span = span-container c.args.input.now c.args.indexes.now c.requires.within c.type_inv.input c.args.at c.requires.at
    c.if-input-indexes-eq123.true in
    omega (arith, c.close.ensures.closed)

pub returns-clause-passed : goal.returns-clause-passed
returns-clause-passed c =
    let span = span-other c.args.input.now c.args.indexes.now c.requires.within c.type_inv.input c.args.at c.requires.at
    c.if-input-indexes-eq123.false in
    omega arith
