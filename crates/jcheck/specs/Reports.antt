-- What is written of an input, and whether it is clean: functions of the input, its file's name, the style of excerpts and the depth limit.
use Rattle.std.specs.Prelude.{ℕ, ◌+◌, ◌-◌, ◌^◌, min, List, [], ◌∷◌, ◌++◌, length, codes, Bool, ◌||◌, Option, None, Some, is_none}
use Rattle.std.specs.Prelude.{if◌then◌else◌}
use Rattle.std.specs.Fmt.{decimal}
use Rattle.jcheck.specs.Excerpts.{excerpt}
use Rattle.simd_json_check.specs.Messages.{kind_words, location_text}
use Rattle.simd_json_check.specs.Reasons.{found_in, location_in}
use Rattle.jcheck.specs.declared.excerpt.Style.{Style}
use Rattle.simd_json_parts.specs.Pieces.{is_blank}
use Rattle.simd_json_check.specs.declared.location.Location.{Location}
use Rattle.simd_json_parts.specs.Bytes.{line_feed}

-- the place in the file, as far as 64 bits hold it
abbrev pub place_after : ℕ → ℕ → ℕ
place_after start byte = min (start + byte) (2 ^ 64 - 1)

-- FILE:LINE:COLUMN: REASON [KIND at byte BYTE], of an error in a text that begins in this line and at byte `start` of its file
abbrev pub words : List ℕ → ℕ → ℕ → Location → List ℕ
words file line start l =
    file ++ codes ":" ++ location_text (location_in line l) ++ codes " [" ++ kind_words l
    ++ codes " at byte " ++ decimal (place_after start l.byte) ++ codes "]"

-- the words, and the text around the place
abbrev pub found_text : List ℕ → Style → ℕ → ℕ → List ℕ → Option Location → List ℕ
found_text file style line start checked None = []
found_text file style line start checked (Some l) =
    words file line start l ++ (line_feed ∷ []) ++ excerpt style checked l.byte

abbrev pub checked_text : List ℕ → Style → ℕ → ℕ → ℕ → List ℕ → List ℕ
checked_text file style limit line start checked = found_text file style line start checked (found_in checked limit)

-- of an input that is one document
abbrev pub whole_text : List ℕ → Style → ℕ → List ℕ → List ℕ
whole_text file style limit input = checked_text file style limit 1 0 input

-- ---- of lines, each a document of its own

-- of the line with this number, which begins at byte `start`
abbrev pub line_text : List ℕ → Style → ℕ → ℕ → ℕ → List ℕ → List ℕ
line_text file style limit number start line = if is_blank line then [] else checked_text file style limit number start line

-- of that line and those after it
abbrev pub lines_text : List ℕ → Style → ℕ → ℕ → ℕ → List (List ℕ) → List ℕ
lines_text file style limit number start [] = []
lines_text file style limit number start (line ∷ more) =
    line_text file style limit number start line
    ++ lines_text file style limit (number + 1) (start + length line + 1) more

-- it is blank or a document
abbrev pub is_clean_line : ℕ → List ℕ → Bool
is_clean_line limit line = is_blank line || is_none (found_in line limit)
