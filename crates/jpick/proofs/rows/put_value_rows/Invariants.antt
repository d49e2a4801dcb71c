use Rattle.std.proofs.Common.{◌≡◌, ◌++◌, List, ℕ, Some, flat_map, length, map}
use Rattle.simd_json.specs.Viewed.{doc}
use Rattle.simd_json_parts.specs.Document.{Document}
use Rattle.simd_json_path.specs.IteratorNodes.{selected_left}
use Rattle.simd_json_path.specs.Paths.{selected}
use Rattle.simd_json_print.specs.Texts.{Adds}
use Rattle.jpick.specs.Rows.{value_row}
use Rattle.jpick.proofs.rows.put_value_rows.Given as goal

abbrev pub invariant-values : goal.invariant-values
invariant-values g l = (rest : List Document) × (selected_left l.values ≡ map Some rest)
    × (done : List ℕ) × Adds g.T.Target.state l.fn.text l.text done
    × (done ++ flat_map (value_row l.fn.wanted) rest ≡ flat_map (value_row l.fn.wanted) (selected l.fn.path (doc l.fn.value)))

abbrev pub decreases-values : goal.decreases-values
decreases-values g l = length (selected_left l.values)
