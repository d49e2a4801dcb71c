use Rattle.std.proofs.Common.{arith}
use Rattle.simd_json_stages.proofs.Scan.ScanLaws.{IsPlaced-next}
use Rattle.simd_json_stages.proofs.stage1.scan.Placing.place_block.Goals as goal

pub returns-clause-placed : goal.returns-clause-placed
returns-clause-placed c =
    let w = c.write in
    λ b parts control before.
    let f = c.find_starts-placed in
    let found = f.ensures b _ parts control before.carried in
    IsPlaced-next b c.args.block c.args.self c.args.structural_indexes.now f.result w.new.structural_indexes w.result before found
    w.ensures.written w.ensures.count (omega arith)
