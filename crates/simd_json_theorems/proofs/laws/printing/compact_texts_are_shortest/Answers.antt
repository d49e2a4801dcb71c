use Rattle.simd_json_theorems.proofs.Printing.Shortest.{compact-shortest}
use Rattle.simd_json_theorems.proofs.laws.printing.compact_texts_are_shortest.Goals as goal

pub returns : goal.returns
returns c = compact-shortest
