use Rattle.std.proofs.Common.{sym, subst, false}
use Rattle.simd_json_serde.specs.WrittenOut.{IsPrinted}
use Rattle.simd_json_serde.proofs.Printed.{printed-utf8}
use Rattle.simd_json_serde.proofs.writing.to_string.Goals as goal

pub from_utf8_unchecked-requires : goal.from_utf8_unchecked-requires
from_utf8_unchecked-requires g c = printed-utf8 false (g.T.Described.writes c.args.value.now) _ c.in_ok-to_vec.ensures

pub returns : goal.returns
returns g c = subst (λ v. IsPrinted false (g.T.Described.writes c.args.value.now) v.items) (sym c.from_utf8_unchecked.ensures.value)
    c.in_ok-to_vec.ensures
