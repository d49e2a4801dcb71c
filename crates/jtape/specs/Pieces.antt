-- What is written of each piece of a stream of lines.
use Rattle.std.specs.Prelude.{ℕ, List, [], ◌∷◌, ◌++◌, flat_map, codes, Bool, ◌||◌, is_ok, Result, Ok, Err, if◌then◌else◌}
use Rattle.std.specs.List.{list_all}
use Rattle.simd_json_parts.specs.Answer.{answer}
use Rattle.simd_json_parts.specs.Bytes.{line_feed}
use Rattle.simd_json_parts.specs.Document.{Document}
use Rattle.simd_json_parts.specs.ErrorKinds.{error_text}
use Rattle.simd_json_parts.specs.Printed.{compact}
use Rattle.simd_json_parts.specs.declared.error.Error.{Error}
pub use Rattle.simd_json_parts.specs.Pieces.{is_blank}
unfoldable pub use Rattle.simd_json_parts.specs.Pieces.{pieces}

-- a document without whitespace; of what is rejected its error, after a mark that begins no document
abbrev pub answer_text : Result Document Error → List ℕ
answer_text (Ok d) = compact d
answer_text (Err e) = codes "! " ++ error_text e

-- nothing of a blank piece; each other one is parsed by itself, so that an index counts from its first byte
abbrev pub piece_text : ℕ → List ℕ → List ℕ
piece_text depth piece = if is_blank piece then [] else answer_text (answer piece depth) ++ line_feed ∷ []

-- it is blank or a document
abbrev pub is_clean : ℕ → List ℕ → Bool
is_clean depth piece = is_blank piece || is_ok (answer piece depth)

-- of pieces in a row
abbrev pub pieces_text : ℕ → List (List ℕ) → List ℕ
pieces_text depth ps = flat_map (piece_text depth) ps

abbrev pub all_clean : ℕ → List (List ℕ) → Bool
all_clean depth ps = list_all (is_clean depth) ps
