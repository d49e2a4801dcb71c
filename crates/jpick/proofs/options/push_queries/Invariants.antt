use Rattle.std.proofs.Common.{◌++◌, List, ℕ, map, take}
use Rattle.std.specs.List.{AllZip}
use Rattle.jpick.specs.Asked.{IsQueryOf}
use Rattle.jpick.proofs.options.push_queries.Given as goal

abbrev pub invariant-loop-text : goal.invariant-loop-text
invariant-loop-text l = (old : List (List ℕ)) → AllZip IsQueryOf l.fn.queries.items old
    → AllZip IsQueryOf l.queries.items (old ++ map (λ text. text.now) (take l.text-index l.texts))
