use Rattle.std.proofs.Common.{◌≡◌, take, true}
use Rattle.std.specs.List.{list_all}
use Rattle.simd_json.specs.Viewed.{doc}
use Rattle.jpick.specs.Rows.{meets}
use Rattle.jpick.proofs.conditions.meets_all.Given as goal

abbrev pub invariant-loop-filter : goal.invariant-loop-filter
invariant-loop-filter l = list_all (meets (doc l.value)) (take l.filter-index l.filters) ≡ true
