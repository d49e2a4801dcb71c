use Rattle.simd_json_serde.proofs.format.NodeReaderFormat.variant.Goals as goal

pub returns-clause-given : goal.returns-clause-given
returns-clause-given c =
    (c.in_ok-take_string.field-0.now, c.in_ok-take_string.ensures.taken, (c.find.ensures.found, c.find.ensures.first, c.find.ensures.range))
