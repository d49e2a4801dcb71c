-- What the program writes and returns: a function of the mode, the depth limit and the input.
use Rattle.std.specs.Prelude.{ℕ, List, [], ◌∷◌, ◌++◌, Bool, true, Result, Ok, Err}
use Rattle.jtape.specs.Lines.{lines, number_lines}
use Rattle.jtape.specs.Pieces.{pieces, pieces_text, all_clean}
use Rattle.jtape.specs.declared.runs.RunFault.{RunFault}
use Rattle.jtape.specs.declared.runs.RunFault.TheVariants.{Refused}
use Rattle.jtape.specs.declared.words.Mode.{Mode}
use Rattle.jtape.specs.declared.words.Mode.TheVariants as modes
use Rattle.simd_json_parts.specs.Answer.{answer}
use Rattle.simd_json_parts.specs.Bytes.{line_feed}
use Rattle.simd_json_parts.specs.Document.{Document}
use Rattle.simd_json_parts.specs.Listing.{listing}
use Rattle.simd_json_parts.specs.Positions.{positions}
use Rattle.simd_json_parts.specs.declared.error.Error.{Error}
use Rattle.simd_json_print.specs.Layout.{printed}
use Rattle.simd_json_print.specs.declared.document.Layout.TheVariants as layouts

-- the bytes that are written, and what is returned
pub record Output : Type 0 where
  pub bytes : List ℕ
  pub returned : Result Bool RunFault

-- what is printed of an input that is this document
abbrev pub mode_text : Mode → List ℕ → Document → List ℕ
mode_text modes.Tape input d = lines (listing d)
mode_text modes.Positions input d = number_lines (positions input)
mode_text modes.Compact input d = printed layouts.Compact d ++ line_feed ∷ []
mode_text modes.Pretty input d = printed layouts.Pretty d ++ line_feed ∷ []
mode_text modes.Lines input d = []

abbrev pub all_printed : List ℕ → Output
all_printed bytes = record { bytes = bytes; returned = Ok true }

-- nothing is written of what is rejected
abbrev pub nothing_printed : RunFault → Output
nothing_printed fault = record { bytes = []; returned = Err fault }

abbrev pub output_of : Mode → List ℕ → Result Document Error → Output
output_of mode input (Ok d) = all_printed (mode_text mode input d)
output_of mode input (Err e) = nothing_printed (Refused e)

-- of an input that is read as one document, with at most so many containers open at a time
abbrev pub document_output : Mode → ℕ → List ℕ → Output
document_output mode depth input = output_of mode input (answer input depth)

-- of an input of many pieces, each with at most so many open; `true` is returned where each is blank or a document
abbrev pub stream_output : ℕ → List ℕ → Output
stream_output depth input = record { bytes = pieces_text depth (pieces input); returned = Ok (all_clean depth (pieces input)) }

abbrev pub output : Mode → ℕ → List ℕ → Output
output modes.Lines depth input = stream_output depth input
output mode depth input = document_output mode depth input
