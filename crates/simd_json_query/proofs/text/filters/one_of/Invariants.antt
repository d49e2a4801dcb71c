use Rattle.std.proofs.Common.{ℕ, List, length}
use Rattle.std.specs.Prelude.{codes}
use Rattle.simd_json_query.specs.Filters.{Conjunction, Logical, Nested, Operands}
use Rattle.simd_json_query.proofs.text.filters.one_of.Given as goal

abbrev pub invariant-operands : goal.invariant-operands
invariant-operands g l =
    (nesting : ℕ) (text between rest : List ℕ)
    → Operands (Conjunction (Nested nesting)) (codes "||") l.initial.before.items text between
    → Conjunction (Nested nesting) l.fn.last between rest
    → (m : List ℕ) × Operands (Conjunction (Nested nesting)) (codes "||") l.before.items text m × Logical nesting l.test m rest

abbrev pub decreases-operands : goal.decreases-operands
decreases-operands g l = length l.before.items
