use Rattle.simd_json_theorems.proofs.Printing.Texts.{Denotes-compact, Denotes-pretty}
use Rattle.simd_json_theorems.proofs.Printing.Normalized.{equal-normalized, depth-normalized}
use Rattle.simd_json_theorems.proofs.laws.printing.printed_texts_denote_their_documents.Goals as goal

pub returns-clause-compact : goal.returns-clause-compact
returns-clause-compact c = Denotes-compact

pub returns-clause-pretty : goal.returns-clause-pretty
returns-clause-pretty c = Denotes-pretty

pub returns-clause-equal : goal.returns-clause-equal
returns-clause-equal c = equal-normalized

pub returns-clause-depth : goal.returns-clause-depth
returns-clause-depth c = depth-normalized
