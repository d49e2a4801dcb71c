use Rattle.std.proofs.Common.{◌+◌, drop, arith}
use Rattle.simd_json_ondemand.specs.Closing.{first_bytes}
use Rattle.simd_json_ondemand.proofs.Counting.{step-closing, closed_at-none}
use Rattle.simd_json_ondemand.proofs.skip.close_here.Goals as goal

pub returns-then-input-indexes-eq125-clause-closed : goal.returns-then-input-indexes-eq125-clause-closed
returns-then-input-indexes-eq125-clause-closed c =
    let b = c.args.input.now in
    let is = c.args.indexes.now in
    let step = step-closing b is c.requires.within c.type_inv.input c.args.at 1 c.if-at-indexes.true (omega arith)
    c.if-input-indexes-eq125.true in
    let none = closed_at-none (first_bytes b (drop (c.args.at + 1) is)) in
    omega arith
