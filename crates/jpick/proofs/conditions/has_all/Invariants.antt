use Rattle.std.proofs.Common.{◌≡◌, length, take, true}
use Rattle.std.specs.List.{list_all}
use Rattle.simd_json.specs.Viewed.{doc}
use Rattle.jpick.specs.Rows.{has_value}
use Rattle.jpick.proofs.conditions.has_all.Given as goal

abbrev pub invariant-loop-query : goal.invariant-loop-query
invariant-loop-query l = record {
  frames : length l.frames ≡ length l.fn.frames;
  all : list_all (has_value (doc l.value)) (take l.query-index l.queries) ≡ true;
}
