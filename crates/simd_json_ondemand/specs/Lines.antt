-- The lines that an iterator comes to.
use Rattle.std.specs.Prelude.{ℕ, List, [], not, filter}
use Rattle.std.specs.Option.{option_map_or}
use Rattle.simd_json_parts.specs.Pieces.{pieces, is_blank}
use Rattle.simd_json_ondemand.specs.declared.stream.InputLines.{InputLines}

-- those that are not blank
abbrev pub filled : List (List ℕ) → List (List ℕ)
filled = filter (λ line. not (is_blank line))

-- what is left, cut at line feeds
abbrev pub pieces_left : InputLines → List (List ℕ)
pieces_left l = option_map_or (λ rest. pieces rest.now) l.rest []

abbrev pub lines_left : InputLines → List (List ℕ)
lines_left l = filled (pieces_left l)
