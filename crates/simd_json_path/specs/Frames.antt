-- What a query selects with so many frames: all where there is one for each segment, else an error in place of all, as `None`.
use Rattle.std.specs.Prelude.{ℕ, List, [], ◌∷◌, length, map, nat_le, cond, Option, Some, None}
use Rattle.simd_json_parts.specs.Document.{Document}
use Rattle.simd_json_path.specs.Paths.{selected}
use Rattle.simd_json_path.specs.declared.path.Path.{Path}

abbrev pub selected_within : ℕ → Path → Document → List (Option Document)
selected_within count path d = cond (nat_le (length path.segments.now) count) (map Some (selected path d)) (None ∷ [])
