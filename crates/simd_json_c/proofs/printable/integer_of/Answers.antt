use Rattle.std.proofs.Common.{refl, subst}
use Rattle.simd_json_scalars.specs.NumberRead.{IsNumberAt}
use Rattle.simd_json_c.proofs.Printing.{read-node, read-other}
use Rattle.simd_json_c.proofs.printable.integer_of.Goals as goal

pub returns-in-Integer : goal.returns-in-Integer
returns-in-Integer c value is =
    let b = c.args.literal.now in
    read-node b _ _ (subst (IsNumberAt b 0) c.in-Integer.is (c.parse_number.ensures b 0 refl)) value is

pub returns-in_default : goal.returns-in_default
returns-in_default c value is =
    let b = c.args.literal.now in
    absurd (read-other b _ (c.parse_number.ensures b 0 refl) c.in_default.not-Integer value is)
