use Rattle.std.proofs.Common.{map, take}
use Rattle.std.specs.List.{AllZip}
use Rattle.jpick.specs.Asked.{IsFilterOf}
use Rattle.jpick.proofs.options.filters.Given as goal

abbrev pub invariant-loop-text : goal.invariant-loop-text
invariant-loop-text l = AllZip IsFilterOf l.filters.items (map (λ text. text.now) (take l.text-index l.texts))
