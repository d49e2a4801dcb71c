use Rattle.std.proofs.Common.{◌-◌, arith}
use Rattle.simd_json_parts.proofs.Positions.Between.{string-ends}
use Rattle.simd_json_theorems.proofs.laws.tokens.strings_end_before_the_next_position.Goals as goal

pub returns : goal.returns
returns c b t next is e closed l there none last =
    let ends = string-ends b t next is e closed l there none in
    omega (arith, ends.0, ends.1 (next - 1) (omega (arith, ends.0)) (omega arith) last)
