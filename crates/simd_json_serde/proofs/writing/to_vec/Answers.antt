use Rattle.std.proofs.Common.{false}
use Rattle.simd_json_serde.proofs.Printed.{as-printed}
use Rattle.simd_json_serde.proofs.writing.to_vec.Goals as goal

pub returns : goal.returns
returns g c = as-printed c.checked.result (λ text. text.items) false (g.T.Described.writes c.args.value.now) _ c.checked.ensures
    c.in_ok-to_vec.ensures.compact (c.in_ok-to_vec.ensures.events.0, c.in_ok-to_vec.ensures.events.1, c.in_ok-to_vec.ensures.events.2.0)
