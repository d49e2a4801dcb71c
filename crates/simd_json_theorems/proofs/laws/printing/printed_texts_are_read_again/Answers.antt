use Rattle.simd_json_parts.specs.Printed.{compact, pretty}
use Rattle.simd_json_theorems.proofs.Printing.Again.{answer-printed}
use Rattle.simd_json_theorems.proofs.Printing.Texts.{Denotes-compact, Denotes-pretty}
use Rattle.simd_json_theorems.proofs.laws.printing.printed_texts_are_read_again.Goals as goal

pub returns-clause-compact : goal.returns-clause-compact
returns-clause-compact c = answer-printed compact Denotes-compact

pub returns-clause-pretty : goal.returns-clause-pretty
returns-clause-pretty c = answer-printed pretty Denotes-pretty
