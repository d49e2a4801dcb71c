use Rattle.std.proofs.Common.{true}
use Rattle.simd_json_serde.proofs.Printed.{as-printed}
use Rattle.simd_json_serde.proofs.writing.to_vec_pretty.Goals as goal

pub returns : goal.returns
returns g c = as-printed c.checked.result (λ text. text.items) true (g.T.Described.writes c.args.value.now) _ c.checked.ensures
    c.in_ok-to_vec_pretty.ensures.layout c.in_ok-to_vec_pretty.ensures.events
