use Rattle.std.proofs.Common.{◌∙◌, ap, arith}
use Rattle.std.proofs.lemmas.Result.{IfErr-weaker, on_ok_weaker}
use Rattle.simd_json_stages.specs.Capacities.{capped}
use Rattle.simd_json_stages.specs.NodesEnough.{nodes_enough}
use Rattle.simd_json.proofs.Parses.Reservations.{enough-nodes, lack, reserved, room, room-same}
use Rattle.simd_json.proofs.parse.reserve.Goals as goal

pub returns-clause-capacity : goal.returns-clause-capacity
returns-clause-capacity g c =
    let len = c.args.input_len in
    let is =
    c.nodes_enough.ensures.enough ∙ ap (λ n. nodes_enough n c.buffers.inside.max_depth) c.min-positions.ensures
    ∙ ap (nodes_enough (capped len)) (ap (λ r. r.limit) c.buffers.view_is) in
    on_ok_weaker c.reserve-2.result
    (room len c.nodes_enough.result c.reserve.new.self c.reserve-2.new.self is c.in_ok-reserve.ensures.capacity)
    c.reserve-2.ensures.capacity

pub returns-clause-reserved : goal.returns-clause-reserved
returns-clause-reserved g c =
    on_ok_weaker c.reserve-2.result (reserved c.args.input_len c.reserve.new.self c.reserve-2.new.self) (returns-clause-capacity g c)

pub returns-clause-enough : goal.returns-clause-enough
returns-clause-enough g c enough =
    let len = c.args.input_len in
    let buffers = c.args.buffers.now in
    let is =
    c.nodes_enough.ensures.enough ∙ ap (λ n. nodes_enough n c.buffers.inside.max_depth) c.min-positions.ensures
    ∙ ap (nodes_enough (capped len)) (ap (λ r. r.limit) c.buffers.view_is ∙ c.in_ok-reserve.ensures.same.2) in (
      c.in_ok-reserve.ensures.exact ∙ room-same (capped len) buffers (omega (arith, enough)),
      c.reserve-2.ensures.enough (enough-nodes len c.nodes_enough.result buffers c.args.tape.now is enough),
    )

pub returns-clause-fault : goal.returns-clause-fault
returns-clause-fault g c =
    let len = c.args.input_len in
    let is =
    c.nodes_enough.ensures.enough ∙ ap (λ n. nodes_enough n c.buffers.inside.max_depth) c.min-positions.ensures
    ∙ ap (nodes_enough (capped len)) (ap (λ r. r.limit) c.buffers.view_is ∙ c.in_ok-reserve.ensures.same.2) in
    IfErr-weaker c.reserve-2.result _ _ (λ e f. (f.0, lack len c.nodes_enough.result c.args.buffers.now c.args.tape.now is f.1))
    c.reserve-2.ensures.fault
