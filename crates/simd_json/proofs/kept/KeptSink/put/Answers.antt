use Rattle.std.proofs.Common.{arith}
use Rattle.simd_json.proofs.Keeping.{counted-push, kept-push, length-push}
use Rattle.simd_json.proofs.kept.KeptSink.put.Goals as goal

pub invariant_of-self-clause-counted : goal.invariant_of-self-clause-counted
invariant_of-self-clause-counted g c =
    let s = c.args.self.now in
    let one = c.requires.one in
    let k = c.keep_node.ensures in
    rw one.1 (counted-push s.noted.note.placed one.0 _ _ _ s.lost _ s.counted k.kept k.lost)

pub invariant_of-self-clause-few : goal.invariant_of-self-clause-few
invariant_of-self-clause-few g c =
    let placed = c.args.self.now.noted.note.placed in
    let one = c.requires.one in
    rw one.1 (omega (arith, c.requires.room, length-push placed one.0))

pub invariant_of-self-clause-kept : goal.invariant_of-self-clause-kept
invariant_of-self-clause-kept g c whole =
    let s = c.args.self.now in
    let one = c.requires.one in
    let k = c.keep_node.ensures in
    rw one.1 (kept-push g.N.SpanNode.form s.noted.note.placed one.0 _ _ _ (s.kept (k.kept whole).0) one.2 (k.kept whole).1)

pub invariant_of-self-clause-full : goal.invariant_of-self-clause-full
invariant_of-self-clause-full g c = c.keep_node.ensures.full

pub invariant_of-self-clause-capacity : goal.invariant_of-self-clause-capacity
invariant_of-self-clause-capacity g c = rw c.requires.one.1 (omega (arith, c.args.self.now.capacity, c.keep_node.ensures.capacity))
