use Rattle.simd_json_parts.specs.Printed.{pretty}
use Rattle.simd_json_theorems.proofs.Printing.Again.{answer-again, compact-again}
use Rattle.simd_json_theorems.proofs.Printing.Texts.{Denotes-pretty}
use Rattle.simd_json_theorems.proofs.laws.printing.answers_are_printed_and_read_again.Goals as goal

pub returns-clause-compact : goal.returns-clause-compact
returns-clause-compact c = compact-again

pub returns-clause-pretty : goal.returns-clause-pretty
returns-clause-pretty c = answer-again pretty Denotes-pretty
