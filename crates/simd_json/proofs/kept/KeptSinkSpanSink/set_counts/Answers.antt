use Rattle.std.proofs.Common.{arith, length-set}
use Rattle.simd_json_stages.specs.Building.{header_of}
use Rattle.simd_json_stages.specs.Placed.{textless}
use Rattle.simd_json.proofs.Keeping.{kept-set}
use Rattle.simd_json.proofs.kept.KeptSinkSpanSink.set_counts.Goals as goal

pub invariant_of-self-clause-counted : goal.invariant_of-self-clause-counted
invariant_of-self-clause-counted g c =
    let s = c.args.self.now in
    let p = textless (header_of c.args.container c.args.len c.args.count) in
    rw c.of-self.ensures (omega (arith, c.set_node.ensures.len, s.counted, length-set s.noted.note.placed c.args.header p))

pub invariant_of-self-clause-few : goal.invariant_of-self-clause-few
invariant_of-self-clause-few g c =
    let s = c.args.self.now in
    let p = textless (header_of c.args.container c.args.len c.args.count) in
    rw c.of-self.ensures (omega (arith, s.few, length-set s.noted.note.placed c.args.header p))

pub invariant_of-self-clause-kept : goal.invariant_of-self-clause-kept
invariant_of-self-clause-kept g c whole =
    let s = c.args.self.now in
    let p = textless (header_of c.args.container c.args.len c.args.count) in
    rw c.of-self.ensures
    (kept-set g.N.SpanNode.form s.noted.note.placed c.args.header p _ _ _ (s.kept whole) c.requires.within
    c.header.ensures c.set_node.ensures.set)

pub invariant_of-self-clause-full : goal.invariant_of-self-clause-full
invariant_of-self-clause-full g c lost = omega (arith, c.args.self.now.full lost, c.set_node.ensures.len, c.set_node.ensures.capacity)

pub invariant_of-self-clause-capacity : goal.invariant_of-self-clause-capacity
invariant_of-self-clause-capacity g c = rw c.of-self.ensures (omega (arith, c.args.self.now.capacity, c.set_node.ensures.capacity))
