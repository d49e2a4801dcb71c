use Rattle.simd_json_theorems.proofs.Printing.Texts.{Denotes-compact, Denotes-pretty}
use Rattle.simd_json_parts.specs.Printed.{compact, pretty}
use Rattle.simd_json.proofs.Views.Encoded.{parsed-again}
use Rattle.simd_json.proofs.laws.printed_values_are_parsed_again.Goals as goal

pub returns-clause-compact : goal.returns-clause-compact
returns-clause-compact c = parsed-again compact Denotes-compact

pub returns-clause-pretty : goal.returns-clause-pretty
returns-clause-pretty c = parsed-again pretty Denotes-pretty
