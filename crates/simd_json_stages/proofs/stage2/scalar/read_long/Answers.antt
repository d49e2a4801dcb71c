use Rattle.std.proofs.Common.{◌≤◌, length, subst}
use Rattle.simd_json_stages.proofs.Machine.ScalarPut.{offset-within}
use Rattle.simd_json_stages.proofs.stage2.scalar.read_long.Goals as goal

pub returns-in-Err : goal.returns-in-Err
returns-in-Err c b e l =
    let is = c.in-Err.ensures b c.args.at e in
    let offset = c.in-Err.offset in
    (offset, is, c.invalid_number.ensures b e (subst (λ bs. offset ≤ length bs) e (offset-within b c.args.at offset l is)))
