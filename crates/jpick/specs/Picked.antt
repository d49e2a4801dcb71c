-- What is picked of a stream of lines, and how each rejected line is named.
use Rattle.std.specs.Prelude.{ℕ, List, [], ◌∷◌, ◌++◌, codes, Bool, true, false, not, ◌&&◌, ◌||◌, ◌==◌}
use Rattle.std.specs.Prelude.{Option, None, Some, is_some, if◌then◌else◌}
use Rattle.simd_json_parts.specs.Pieces.{pieces}
use Rattle.simd_json_parts.specs.Bytes.{line_feed}
use Rattle.simd_json_parts.specs.Document.{Document}
use Rattle.simd_json_parts.specs.declared.error.Error.{Error}
use Rattle.simd_json_parts.specs.declared.error.ErrorType.{ErrorType}
use Rattle.simd_json_parts.specs.declared.error.ErrorType.TheVariants.{Syntax}
use Rattle.programs.specs.Lines.{folded}
use Rattle.jsonl.specs.Records.{Outcome, blank, value, rejected, outcome_of_line, outcome_of_text}
use Rattle.programs.specs.Rejections.{one_more, rejection_words}
use Rattle.jpick.specs.Rows.{rows_of_each}
use Rattle.jpick.specs.declared.fields.Wanted.{Wanted}
use Rattle.jpick.specs.declared.lines.Taken.{Taken}
use Rattle.jpick.specs.declared.lines.Taken.TheVariants as takings

-- ---- how a rejected line is named

-- with a character, the kind of an input that ends within a document
abbrev pub is_syntax : ErrorType → Bool
is_syntax Syntax = true
is_syntax _ = false

abbrev pub ends_early : Option Error → Bool
ends_early None = false
ends_early (Some e) = is_syntax e.error && is_some e.character

-- where the first line ends within a document, the file is one
abbrev pub begins_document : Wanted → ℕ → Option Error → Bool
begins_document w number error = not (w.is_document || w.is_quiet) && (number == 1) && ends_early error

abbrev pub hint : Bool → List ℕ
hint true = codes "jpick: to read a file as one document, type: jpick -d .." ++ line_feed ∷ []
hint false = []

-- FILE:LINE:COLUMN: REASON [KIND], or nothing where it is quiet
abbrev pub naming_words : Wanted → ℕ → List ℕ → Option Error → List ℕ
naming_words w number line error = rejection_words w.longest number line error ++ hint (begins_document w number error)

abbrev pub rejection_line : Wanted → List ℕ → ℕ → List ℕ → Option Error → List ℕ
rejection_line w file number line error = if w.is_quiet then [] else file ++ naming_words w number line error

-- ---- what is picked

-- how many lines there are so far, whether none of them was rejected, whether the first begins a document, which nothing is taken
-- after, the rows, and the lines that name rejected ones
pub record Picked : Type 0 where
  pub number : ℕ
  pub all_taken : Bool
  pub is_over : Bool
  pub rows : List ℕ
  pub rejections : List ℕ

abbrev pub no_line : Picked
no_line = record { number = 0; all_taken = true; is_over = false; rows = []; rejections = [] }

abbrev pub taken_by : Bool → Bool → Taken
taken_by true all_taken = takings.Document
taken_by false true = takings.All
taken_by false false = takings.NotAll

abbrev pub taken_of : Picked → Taken
taken_of r = taken_by r.is_over r.all_taken

abbrev pub next : Picked → Picked
next r = record r { number = one_more r.number }

abbrev pub with_rejection : Wanted → List ℕ → Picked → List ℕ → Option Error → Picked
with_rejection w file r line error =
    record r {
      all_taken = false;
      is_over = begins_document w r.number error;
      rejections = r.rejections ++ rejection_line w file r.number line error;
    }

abbrev pub rows_of : Wanted → Document → List ℕ
rows_of w d = rows_of_each w.each w d

abbrev pub with_value : Wanted → Picked → Document → Picked
with_value w r d = record r { rows = r.rows ++ rows_of w d }

abbrev pub with_outcome : Wanted → List ℕ → Picked → List ℕ → Outcome → Picked
with_outcome w file r line blank = r
with_outcome w file r line (value d) = with_value w r d
with_outcome w file r line (rejected error) = with_rejection w file r line error

-- A line is rejected if it is longer than this or no JSON text. One that is empty, or whitespace alone, is passed over.
abbrev pub with_line : Wanted → List ℕ → Picked → List ℕ → Picked
with_line w file r line = if r.is_over then r else with_outcome w file (next r) line (outcome_of_line w.longest w.depth line)

-- of the lines of an input: of the pieces between its line feeds
abbrev pub picked_lines : Wanted → List ℕ → List ℕ → Picked
picked_lines w file input = folded (with_line w file) no_line (pieces input)

-- of an input that is one document
abbrev pub picked_document : Wanted → List ℕ → List ℕ → Picked
picked_document w file input = with_outcome w file (next no_line) input (outcome_of_text w.depth input)

abbrev pub picked_of : Wanted → List ℕ → List ℕ → Picked
picked_of w file = if w.is_document then picked_document w file else picked_lines w file
