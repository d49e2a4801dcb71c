-- The pieces of a stream of lines.
use Rattle.std.specs.Prelude.{ℕ, List, [], ◌∷◌, Bool, ◌==◌, if◌then◌else◌}
use Rattle.std.specs.List.{list_all}
use Rattle.simd_json_parts.specs.Bytes.{is_whitespace, line_feed}

-- with a byte in front of the first piece
abbrev pub with_first : ℕ → List (List ℕ) → List (List ℕ)
with_first x [] = (x ∷ []) ∷ []
with_first x (piece ∷ more) = (x ∷ piece) ∷ more

-- what stands between line feeds: one piece more than there are line feeds
unfoldable pub pieces : List ℕ → List (List ℕ)
pieces [] = [] ∷ []
pieces (x ∷ b) = if x == line_feed then [] ∷ pieces b else with_first x (pieces b)

-- empty, or whitespace alone
abbrev pub is_blank : List ℕ → Bool
is_blank piece = list_all is_whitespace piece
