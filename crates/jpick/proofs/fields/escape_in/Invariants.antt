use Rattle.std.proofs.Common.{◌≡◌, flat_map, take}
use Rattle.jpick.specs.Rows.{escaped}
use Rattle.jpick.proofs.fields.escape_in.Given as goal

abbrev pub invariant-loop-at : goal.invariant-loop-at
invariant-loop-at l = flat_map (escaped l.layout) (take l.at l.bytes) ≡ take l.at l.bytes
