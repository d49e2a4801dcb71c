use Rattle.simd_json_serde.proofs.format.NodeReaderFormat.next_key.Goals as goal

pub returns-then-self-clause-given : goal.returns-then-self-clause-given
returns-then-self-clause-given c =
    (c.in_ok-take_string.field-0.now, c.in_ok-take_string.ensures.taken, (c.find.ensures.found, c.find.ensures.first, c.find.ensures.range))
