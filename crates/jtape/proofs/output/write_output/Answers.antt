use Rattle.std.proofs.Common.{◌≡◌, ◌∙◌, ap, subst, true, false, None}
use Rattle.simd_json.specs.Parsed.{IsParse}
use Rattle.jtape.proofs.Outputs.{parsed-output, all-written, begun-written}
use Rattle.jtape.proofs.output.write_output.Goals as goal

pub returns-clause-all : goal.returns-clause-all
returns-clause-all g c =
    let input = c.args.input.now in
    let within = ap (λ buffers. buffers.limit) c.empty-buffers.ensures in
    let parse = subst (λ limit. IsParse input limit 0 None c.in_ok-tape.tape.nodes c.to_tape_with_buffers.new.buffers.index.listed)
    within c.in_ok-tape.ensures.parse in
    let out = parsed-output c.args.mode input c.args.depth _ _ _ parse in
    all-written c.print.result (c.print.new.writer.failed ≡ false) _ _ _ _ out.3 c.print.ensures.sound
    (c.print.ensures.all out.0 input (c.nodes-nodes.ensures ∙ out.1) (out.2))

pub returns-clause-begun : goal.returns-clause-begun
returns-clause-begun g c =
    let input = c.args.input.now in
    let within = ap (λ buffers. buffers.limit) c.empty-buffers.ensures in
    let parse = subst (λ limit. IsParse input limit 0 None c.in_ok-tape.tape.nodes c.to_tape_with_buffers.new.buffers.index.listed)
    within c.in_ok-tape.ensures.parse in
    let out = parsed-output c.args.mode input c.args.depth _ _ _ parse in
    begun-written c.print.result (c.print.new.writer.failed ≡ true) _ _ _ _ out.3 c.print.ensures.fault
    (c.print.ensures.begun out.0 input (c.nodes-nodes.ensures ∙ out.1) (out.2))
