use Rattle.std.proofs.Common.{◌≡◌, ◌≤◌, ◌+◌, ◌-◌, ◌++◌, [], length, take, true, List, ℕ}
use Rattle.std.specs.List.{list_all}
use Rattle.log_report.specs.Asked.{AreOf, is_selector}
use Rattle.log_report.proofs.Named.{written}
use Rattle.log_report.proofs.options.push_more.Given as goal

abbrev pub invariant-loop-taken : goal.invariant-loop-taken
invariant-loop-taken l = record {
  each : (first : List (List ℕ)) → AreOf first [] l.fn.selectors.items
      → AreOf (first ++ written (take l.taken l.words)) (written (take l.taken_keys l.keys)) l.selectors.items;
  well_formed : list_all is_selector l.fn.selectors.items ≡ true → list_all is_selector l.selectors.items ≡ true;
  within : l.taken ≤ length l.words;
  within_keys : l.taken_keys ≤ length l.keys;
}

abbrev pub decreases-loop-taken : goal.decreases-loop-taken
decreases-loop-taken l = length l.words + length l.keys - l.taken - l.taken_keys
