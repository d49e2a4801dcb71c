-- What is counted of some inputs, and how each rejected line is named.
use Rattle.std.specs.Prelude.{ℕ, List, [], ◌∷◌, ◌++◌, codes, Bool, true, false, Option}
use Rattle.std.specs.Prelude.{◌==◌, if◌then◌else◌}
use Rattle.std.specs.Fmt.{decimal}
use Rattle.simd_json_parts.specs.Pieces.{pieces}
use Rattle.simd_json_stages.specs.Capacities.{default_max_depth}
use Rattle.simd_json_parts.specs.Bytes.{line_feed}
use Rattle.simd_json_parts.specs.declared.error.Error.{Error}
use Rattle.programs.specs.Lines.{folded}
use Rattle.jsonl.specs.Records as outcome
use Rattle.jsonl.specs.Records.{Outcome, blank, value, outcome_of_line}
use Rattle.programs.specs.Rejections.{one_more, rejection_words}
use Rattle.log_report.specs.Rows.{row_label}
use Rattle.log_report.specs.Table.{Count, none_counted, counted, lines_of, others, rejected}
use Rattle.log_report.specs.declared.rows.Wanted.{Wanted}

-- FILE:LINE:COLUMN: REASON [KIND]
abbrev pub rejection_line : Wanted → List ℕ → ℕ → List ℕ → Option Error → List ℕ
rejection_line w file number line error = file ++ rejection_words w.longest number line error

-- how many lines of an input there are so far, whether none was rejected, the counts, and the lines that name rejected ones
pub record Report : Type 0 where
  pub number : ℕ
  pub all_taken : Bool
  pub counts : List Count
  pub rejections : List ℕ

abbrev pub no_report : Wanted → Report
no_report w = record { number = 0; all_taken = true; counts = none_counted w.is_tsv; rejections = [] }

abbrev pub next : Report → Report
next r = record r { number = one_more r.number }

abbrev pub with_text : Wanted → Report → List ℕ → Report
with_text w r t = record r { counts = counted w.is_tsv w.values 1 t r.counts }

abbrev pub with_counted_rejection : Wanted → List ℕ → Report → List ℕ → Option Error → Report
with_counted_rejection w file r line error =
    record (with_text w r (rejected w.is_tsv))
    { all_taken = false; rejections = r.rejections ++ rejection_line w file r.number line error }

-- by its row
abbrev pub with_counted_outcome : Wanted → List ℕ → Report → List ℕ → Outcome → Report
with_counted_outcome w file r line blank = r
with_counted_outcome w file r line (value d) = with_text w r (row_label w d)
with_counted_outcome w file r line (outcome.rejected error) = with_counted_rejection w file r line error

-- A line is rejected if it is longer than this or no JSON text. One that is empty, or whitespace alone, counts under nothing.
abbrev pub with_counted_line : Wanted → List ℕ → Report → List ℕ → Report
with_counted_line w file r line =
    with_counted_outcome w file (next r) line (outcome_of_line w.longest default_max_depth line)

-- an input: the name of its file, and its bytes
abbrev pub Part : Type 0
Part = List ℕ × List ℕ

-- of the lines of one more input: of the pieces between its line feeds, whose numbers begin again
abbrev pub with_part : Wanted → Report → Part → Report
with_part w r part = folded (with_counted_line w part.0) (record r { number = 0 }) (pieces part.1)

abbrev pub with_parts : Wanted → Report → List Part → Report
with_parts w r [] = r
with_parts w r (part ∷ parts) = with_parts w (with_part w r part) parts

abbrev pub report_of : Wanted → List Part → Report
report_of w parts = with_parts w (no_report w) parts

-- ---- the notice, before the report

abbrev pub notice_words : Wanted → ℕ → List ℕ
notice_words w n =
    codes "lines under " ++ others w.is_tsv ++ codes ": " ++ decimal n ++ codes " (--values for more than " ++ decimal w.values
    ++ codes " values; a row has at most 1024 bytes)" ++ line_feed ∷ []

abbrev pub notice_of : Wanted → ℕ → List ℕ
notice_of w n = if n == 0 then [] else codes "log_report: " ++ notice_words w n

-- where lines have no count of their own
abbrev pub notice : Wanted → List Count → List ℕ
notice w cs = notice_of w (lines_of (others w.is_tsv) cs)

-- what standard error has
abbrev pub said : Wanted → Report → List ℕ
said w r = r.rejections ++ notice w r.counts
