use Rattle.std.proofs.Common.{◌≡◌, ◌++◌, ◌∷◌, [], List, ℕ, Some, length, map}
use Rattle.programs.specs.Cells.{cells}
use Rattle.simd_json.specs.Viewed.{doc}
use Rattle.simd_json_parts.specs.Bytes.{comma}
use Rattle.simd_json_parts.specs.Document.{Document}
use Rattle.simd_json_path.specs.IteratorNodes.{selected_left}
use Rattle.simd_json_path.specs.Paths.{selected}
use Rattle.simd_json_print.specs.Texts.{Adds}
use Rattle.jpick.specs.Rows.{element_text}
use Rattle.jpick.proofs.Arrays.{joined}
use Rattle.jpick.proofs.rows.put_elements.Given as goal

abbrev pub invariant-values : goal.invariant-values
invariant-values g l = (rest : List Document) × (selected_left l.values ≡ map Some rest)
    × (done : List ℕ) × Adds g.T.Target.state l.fn.text l.text done
    × (done ++ joined (element_text l.fn.wanted) l.mark rest
    ≡ cells (comma ∷ []) (element_text l.fn.wanted) (selected l.fn.path (doc l.fn.value)))

abbrev pub decreases-values : goal.decreases-values
decreases-values g l = length (selected_left l.values)
