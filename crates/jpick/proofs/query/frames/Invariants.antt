use Rattle.std.proofs.Common.{◌≡◌, take, true}
use Rattle.std.specs.List.{list_all}
use Rattle.jpick.specs.Queries.{has_frames}
use Rattle.jpick.proofs.query.frames.Given as goal

abbrev pub invariant-loop-query : goal.invariant-loop-query
invariant-loop-query l = list_all (has_frames l.most) (take l.query-index l.queries) ≡ true
