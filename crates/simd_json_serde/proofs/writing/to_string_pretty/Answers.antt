use Rattle.std.proofs.Common.{sym, subst, true}
use Rattle.simd_json_serde.specs.WrittenOut.{IsPrinted}
use Rattle.simd_json_serde.proofs.Printed.{printed-utf8}
use Rattle.simd_json_serde.proofs.writing.to_string_pretty.Goals as goal

pub from_utf8_unchecked-requires : goal.from_utf8_unchecked-requires
from_utf8_unchecked-requires g c = printed-utf8 true (g.T.Described.writes c.args.value.now) _ c.in_ok-to_vec_pretty.ensures

pub returns : goal.returns
returns g c = subst (λ v. IsPrinted true (g.T.Described.writes c.args.value.now) v.items) (sym c.from_utf8_unchecked.ensures.value)
    c.in_ok-to_vec_pretty.ensures
