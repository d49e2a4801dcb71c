use Rattle.std.proofs.lemmas.List.{map-set}
use Rattle.simd_json_stages.proofs.stage2.builder.TapeBuilderBuilder.set_counts.Goals as goal

pub returns-clause-patched : goal.returns-clause-patched
returns-clause-patched g c = rw (map-set, c.from_node.ensures, c.header.ensures)
