use Rattle.std.proofs.Common.{◌≤◌, ◌+◌, ◌*◌, ℕ, List, length}
use Rattle.std.specs.Prelude.{codes}
use denote.Text.{Utf8}
use denote.Shadow.{shadow}
use Rattle.simd_json_query.specs.Filters.{Basic, Conjunction, Nested, Operands}
use Rattle.simd_json_query.proofs.text.filters.+tests.Given as goal

abbrev pub decreases-logical : goal.decreases-logical
decreases-logical g l = 6 * l.nesting + 5

abbrev pub decreases-conjunction : goal.decreases-conjunction
decreases-conjunction g l = 6 * l.nesting + 4

abbrev pub decreases-basic : goal.decreases-basic
decreases-basic g l = 6 * l.nesting + 3

abbrev pub decreases-denied : goal.decreases-denied
decreases-denied g l = 6 * l.nesting + 2

abbrev pub decreases-nested : goal.decreases-nested
decreases-nested g l = 6 * l.nesting

abbrev pub invariant-logical-operands : goal.invariant-logical-operands
invariant-logical-operands g l =
    shadow (Utf8 l.left)
    × ((m : List ℕ) × Operands (Conjunction (Nested l.fn.nesting)) (codes "||") l.before.items l.fn.rest m
    × Conjunction (Nested l.fn.nesting) l.last m l.left)
    × (length l.left ≤ length l.fn.rest)

abbrev pub decreases-logical-operands : goal.decreases-logical-operands
decreases-logical-operands g l = length l.left

abbrev pub invariant-conjunction-operands : goal.invariant-conjunction-operands
invariant-conjunction-operands g l =
    shadow (Utf8 l.left)
    × ((m : List ℕ) × Operands (Basic (Nested l.fn.nesting)) (codes "&&") l.before.items l.fn.rest m
    × Basic (Nested l.fn.nesting) l.last m l.left)
    × (length l.left ≤ length l.fn.rest)

abbrev pub decreases-conjunction-operands : goal.decreases-conjunction-operands
decreases-conjunction-operands g l = length l.left
