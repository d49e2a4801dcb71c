use Rattle.std.proofs.Common.{refl, sym, Err, arith}
use Rattle.simd_json_ondemand.proofs.Leading.{container-at, document-at, document-stops, document-there, is-led, walk-at}
use Rattle.simd_json_ondemand.proofs.Leading.{walk-stops, walk-there}
use Rattle.simd_json_ondemand.proofs.value.Value.follow.Goals as goal

pub returns-in-Err-clause-walk : goal.returns-in-Err-clause-walk
returns-in-Err-clause-walk c =
    let p = c.args.pointer.now in
    let t = c.in-Err.ensures.err in
    let led = is-led p c.args.self t.3.1.0 t.1 t.0 t.3.1.1 in
    sym (walk-at p c.args.self t.1 t.0 led t.2 t.4 (Err c.in-Err.stop) t.5)

pub returns-in-Err-clause-document : goal.returns-in-Err-clause-document
returns-in-Err-clause-document c =
    let p = c.args.pointer.now in
    let t = c.in-Err.ensures.err in
    let led = is-led p c.args.self t.3.1.0 t.1 t.0 t.3.1.1 in
    document-at p c.args.self t.1 t.0 led t.2 t.4 (Err c.in-Err.stop) refl t.5

pub returns-in-Err-clause-container : goal.returns-in-Err-clause-container
returns-in-Err-clause-container c =
    let p = c.args.pointer.now in
    let t = c.in-Err.ensures.err in
    let led = is-led p c.args.self t.3.1.0 t.1 t.0 t.3.1.1 in
    container-at p c.args.self t.1 t.0 led t.2 t.4 c.in-Err.stop t.5

pub returns-then-followed-pointer-clause-walk : goal.returns-then-followed-pointer-clause-walk
returns-then-followed-pointer-clause-walk c =
    let p = c.args.pointer.now in
    let r = c.in-Ok.led in
    let by = c.in-Ok.ensures.led in
    walk-stops p c.args.self r.1 r.0 (is-led p c.args.self by.1.0 r.1 r.0 by.1.1) c.if-followed-pointer.true c.in-Ok.ensures.stopped

pub returns-then-followed-pointer-clause-document : goal.returns-then-followed-pointer-clause-document
returns-then-followed-pointer-clause-document c =
    let p = c.args.pointer.now in
    let r = c.in-Ok.led in
    let by = c.in-Ok.ensures.led in
    document-stops p c.args.self r.1 r.0 (is-led p c.args.self by.1.0 r.1 r.0 by.1.1) c.if-followed-pointer.true c.in-Ok.ensures.stopped

pub returns-clause-walk : goal.returns-clause-walk
returns-clause-walk c =
    let p = c.args.pointer.now in
    let r = c.in-Ok.led in
    let by = c.in-Ok.ensures.led in
    walk-there p c.args.self r.1 r.0 (is-led p c.args.self by.1.0 r.1 r.0 by.1.1) (omega (arith, c.if-followed-pointer.false))

pub returns-clause-document : goal.returns-clause-document
returns-clause-document c =
    let p = c.args.pointer.now in
    let r = c.in-Ok.led in
    let by = c.in-Ok.ensures.led in
    document-there p c.args.self r.1 r.0 (is-led p c.args.self by.1.0 r.1 r.0 by.1.1) (omega (arith, c.if-followed-pointer.false))
