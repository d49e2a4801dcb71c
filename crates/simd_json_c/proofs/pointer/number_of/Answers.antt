use Rattle.std.proofs.Common.{rules}
use Rattle.simd_json_c.proofs.Placing.{index-utf8}
use Rattle.simd_json_c.proofs.pointer.number_of.Goals as goal

pub returns-in-Err : goal.returns-in-Err
returns-in-Err c =
    absurd (c.in-Err.ensures.cases.0 (index-utf8 c.args.token.now (search rules)))
