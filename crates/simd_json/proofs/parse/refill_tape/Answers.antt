use Rattle.std.proofs.Common.{ap, arith, refl}
use Rattle.std.specs.Result.{result_err}
use Rattle.simd_json.proofs.Parses.Reservations.{kept-same, reserved-now, reserved-still}
use Rattle.simd_json.proofs.parse.refill_tape.Goals as goal

pub returns-clause-reserved : goal.returns-clause-reserved
returns-clause-reserved g c len is =
    let answer = c.fill_tape-answer in
    let buffers = c.args.buffers.now in
    let same = ap (λ t. t.capacity) c.reset-tape.ensures in
    let reset =
    reserved-still len buffers buffers c.args.tape c.reset-tape.result refl (kept-same buffers)
    (omega (arith, same)) is in (
      reserved-still len buffers answer.new.buffers c.reset-tape.result answer.new.tape answer.ensures.limit
          answer.ensures.capacities.0 answer.ensures.capacities.1 reset,
      λ short. reserved-now len buffers c.reset-tape.result reset c.args.s.now (result_err answer.result) answer.new.tape.nodes
          answer.new.buffers.index.listed short answer.ensures.parse,
    )
