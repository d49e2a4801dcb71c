use Rattle.std.proofs.Common.{rules, ap, Some}
use Rattle.simd_json_print.specs.Texts.{TargetState}
use Rattle.jtape.specs.Pieces.{pieces, pieces_text}
use Rattle.jtape.proofs.Streams.{stream-returned, stream-written, stream-stopped, stream-begun}
use Rattle.jtape.proofs.stream.write_stream.Goals as goal

pub returns-in-Ok-clause-returned : goal.returns-in-Ok-clause-returned
returns-in-Ok-clause-returned g c =
    let start : TargetState = record { held = g.W.Write.contents c.args.writer.now.inner; failed = Some c.args.writer.now.failed } in
    let put = c.put_stream-put.ensures in
    stream-returned c.finish.result {start = start} _ c.put_stream-put.result c.args.depth c.args.input.now
    (search rules) (ap Some c.requires) c.new-text.ensures.empty put.put put.clean c.finish.ensures

pub returns-in-Ok-clause-written : goal.returns-in-Ok-clause-written
returns-in-Ok-clause-written g c =
    let whole = pieces_text c.args.depth (pieces c.args.input.now) in
    let put = c.put_stream-put.ensures in
    let written = stream-written c.finish.result {old = c.args.writer.now.failed} _ _ c.put_stream-put.result whole
    (search rules) c.requires c.new-text.ensures.empty put.put c.finish.ensures in
    search rules

pub returns-in-Ok-clause-fault : goal.returns-in-Ok-clause-fault
returns-in-Ok-clause-fault g c =
    let put = c.put_stream-put.ensures in
    let stopped = stream-stopped c.finish.result {old = c.args.writer.now.failed} _ _ c.put_stream-put.result c.args.depth c.args.input.now
    (search rules) c.requires c.new-text.ensures.empty put.fault put.stopped c.finish.ensures in
    search rules

pub returns-in-Err-clause-fault : goal.returns-in-Err-clause-fault
returns-in-Err-clause-fault g c =
    let put = c.put_stream-put.ensures in
    let begun = stream-begun c.finish.result {old = c.args.writer.now.failed} _ _ c.put_stream-put.result c.args.depth c.args.input.now
    (search rules) c.new-text.ensures.empty put.put put.stopped c.finish.ensures in
    search rules
