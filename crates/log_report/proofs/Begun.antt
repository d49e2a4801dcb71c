-- The rejections of a report are in front of those of more lines.
use Rattle.std.proofs.Common.{◌≡◌, refl, List, ℕ, [], ◌++◌, append-nil}
use Rattle.simd_json_stages.specs.Capacities.{default_max_depth}
use Rattle.jsonl.specs.Records as outcome
use Rattle.jsonl.specs.Records.{Outcome, blank, value, outcome_of_line}
use Rattle.log_report.specs.Report.{Report, next, rejection_line, with_counted_line, with_counted_outcome}
use Rattle.log_report.specs.declared.rows.Wanted.{Wanted}

pub grows : (w : Wanted) (file : List ℕ) (r : Report) (text : List ℕ) (o : Outcome)
    → (more : List ℕ) × (r.rejections ++ more ≡ (with_counted_outcome w file r text o).rejections)
grows w file r text blank = ([], append-nil r.rejections)
grows w file r text (value d) = ([], append-nil r.rejections)
grows w file r text (outcome.rejected error) = (rejection_line w file r.number text error, refl)

pub rejections-grow : (w : Wanted) (file : List ℕ) (r : Report) (line : List ℕ)
    → (more : List ℕ) × (r.rejections ++ more ≡ (with_counted_line w file r line).rejections)
rejections-grow w file r line = grows w file (next r) line (outcome_of_line w.longest default_max_depth line)
