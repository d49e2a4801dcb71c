-- How a rejected line is named.
use Rattle.std.specs.Prelude.{ℕ, ◌+◌, ◌-◌, ◌^◌, min, List, [], ◌∷◌, ◌++◌, codes, Option, None, Some}
use Rattle.std.specs.Fmt.{decimal}
use Rattle.simd_json_check.specs.Messages.{kind_words, location_text}
use Rattle.simd_json_check.specs.Reasons.{location_in, location_of}
use Rattle.simd_json_check.specs.declared.location.Location.{Location}
use Rattle.simd_json_parts.specs.Bytes.{line_feed}
use Rattle.simd_json_parts.specs.declared.error.Error.{Error}

-- one more, as far as 64 bits hold it
abbrev pub one_more : ℕ → ℕ
one_more n = min (n + 1) (2 ^ 64 - 1)

-- LINE:COLUMN: REASON [KIND]
abbrev pub located_words : Location → List ℕ
located_words l = codes ":" ++ location_text l ++ codes " [" ++ kind_words l ++ codes "]"

-- of a text whose first line has this number; or LINE: and that it has more than so many bytes
abbrev pub why_rejected : ℕ → ℕ → List ℕ → Option Error → List ℕ
why_rejected longest number text (Some e) = located_words (location_in number (location_of text e))
why_rejected longest number text None =
    codes ":" ++ decimal number ++ codes ": longer than " ++ decimal longest ++ codes " bytes (--longest)"

-- after the name of the file
abbrev pub rejection_words : ℕ → ℕ → List ℕ → Option Error → List ℕ
rejection_words longest number text error = why_rejected longest number text error ++ line_feed ∷ []
