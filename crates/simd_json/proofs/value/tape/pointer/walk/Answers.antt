use Rattle.simd_json.proofs.Views.Leading.{led}
use Rattle.simd_json.proofs.value.tape.pointer.walk.Goals as goal

pub returns-clause-led : goal.returns-clause-led
returns-clause-led c =
    let steps = c.in-Ok.ensures.led.1 in
    led c.args.pointer.now 0 c.args.value steps.0 c.in-Ok.led.1 c.in-Ok.led.0 steps.1
