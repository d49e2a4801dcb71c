-- What the texts of lines are.
use Rattle.std.specs.Prelude.{◌≡◌, ◌≢◌, ◌≤◌, ℕ, List, [], length, nat_lt, Option, None, Some, Result, Ok, Err, if◌then◌else◌}
use Rattle.simd_json.specs.Documents.{document_of}
use Rattle.simd_json_parts.specs.Answer.{answer}
use Rattle.simd_json_parts.specs.Document.{Document}
use Rattle.simd_json_parts.specs.Limits.{depth}
use Rattle.simd_json_parts.specs.Pieces.{is_blank}
use Rattle.simd_json_parts.specs.declared.error.Error.{Error}
use Rattle.programs.specs.Rejections.{one_more}
use Rattle.jsonl.specs.declared.records.Record.{Record}
use Rattle.jsonl.specs.declared.records.Record.TheVariants as read

-- blank, a document, or rejected: without an error it is too long
pub data Outcome : Type 0 where
  blank : Outcome
  value : Document → Outcome
  rejected : Option Error → Outcome

abbrev pub outcome_of_answer : Result Document Error → Outcome
outcome_of_answer (Ok d) = value d
outcome_of_answer (Err e) = rejected (Some e)

-- of a text whose document may have so many levels
abbrev pub outcome_of_text : ℕ → List ℕ → Outcome
outcome_of_text limit text = outcome_of_answer (answer text limit)

-- of a line, which may have so many bytes
abbrev pub outcome_of_line : ℕ → ℕ → List ℕ → Outcome
outcome_of_line longest limit line =
    if nat_lt longest (length line) then rejected None
    else if is_blank line then blank
    else outcome_of_text limit line

-- how long a line may be, how many levels its document may have, how many texts there are so far, and the last of them
pub record Numbered : Type 0 where
  pub longest : ℕ
  pub depth : ℕ
  pub number : ℕ
  pub text : List ℕ

abbrev pub outcome_read : {A : Type 0} → Record A → Outcome
outcome_read read.Blank = blank
outcome_read (read.Value tape) = value (document_of tape.nodes)
outcome_read (read.Rejected error) = rejected error

-- a document is on the tape, and no deeper than that
abbrev pub IsWhole : {A : Type 0} → ℕ → Record A → Type 0
IsWhole limit (read.Value tape) = (tape.nodes ≢ []) × (depth (document_of tape.nodes) ≤ limit)
IsWhole limit _ = Unit

abbrev pub IsTaken : {A : Type 0} → ℕ → Outcome → Record A → Type 0
IsTaken limit outcome r = (outcome_read r ≡ outcome) × IsWhole limit r

-- the text was counted, and this came of it
pub record Reads {A : Type 0} (old new : Numbered) (text : List ℕ) (outcome : Outcome) (r : Record A) : Type 0 where
  pub same : new ≡ record old { number = one_more old.number; text = text }
  pub taken : IsTaken old.depth outcome r
