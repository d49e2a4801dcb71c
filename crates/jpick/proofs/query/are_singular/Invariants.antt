use Rattle.std.proofs.Common.{◌≡◌, take, true}
use Rattle.std.specs.List.{list_all}
use Rattle.jpick.specs.Queries.{is_singular_segment}
use Rattle.jpick.proofs.query.are_singular.Given as goal

abbrev pub invariant-loop-segment : goal.invariant-loop-segment
invariant-loop-segment l = list_all is_singular_segment (take l.segment-index l.segments) ≡ true
