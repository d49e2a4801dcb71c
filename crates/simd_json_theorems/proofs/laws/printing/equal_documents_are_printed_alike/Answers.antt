use Rattle.simd_json_theorems.proofs.Printing.Alike.{compact-equal, pretty-equal}
use Rattle.simd_json_theorems.proofs.laws.printing.equal_documents_are_printed_alike.Goals as goal

pub returns-clause-compact : goal.returns-clause-compact
returns-clause-compact c = compact-equal

pub returns-clause-pretty : goal.returns-clause-pretty
returns-clause-pretty c = pretty-equal
