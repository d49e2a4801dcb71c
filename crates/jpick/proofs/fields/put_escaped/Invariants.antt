use Rattle.std.proofs.Common.{◌≡◌, ◌++◌, List, ℕ, flat_map, length}
use Rattle.simd_json_print.specs.Texts.{Adds}
use Rattle.jpick.specs.Rows.{escaped}
use Rattle.jpick.proofs.fields.put_escaped.Given as goal

abbrev pub invariant-runs : goal.invariant-runs
invariant-runs g l = (done : List ℕ) × Adds g.T.Target.state l.fn.text l.text done
    × (done ++ flat_map (escaped l.fn.layout) l.left ≡ flat_map (escaped l.fn.layout) l.fn.bytes)

abbrev pub decreases-runs : goal.decreases-runs
decreases-runs g l = length l.left
