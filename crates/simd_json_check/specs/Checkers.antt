-- What a contract sees of a checker: its index, and for how large an input it has capacity.
use Rattle.std.specs.Prelude.{◌≤◌, ◌<◌, ℕ, List, length, min, nat_lt, if◌then◌else◌}
use Rattle.simd_json_parts.specs.declared.error.Error.{Error}
use Rattle.simd_json_stages.specs.Capacities.{IndexCapacities, IsNoShorter, LacksMemory, capacity, new_index}

-- the index; and for how many bytes of a copy and how many open containers there is capacity
pub record CheckerCapacities : Type 0 where
  pub index : IndexCapacities
  pub copied : ℕ
  pub opened : ℕ

-- for an input of how many bytes there is capacity, within a depth limit; a stack that reaches the limit bounds nothing
abbrev pub check_capacity : ℕ → CheckerCapacities → ℕ
check_capacity limit r = min (capacity r.index) (if nat_lt r.opened limit then min r.copied r.opened else r.copied)

-- nothing is listed, and there is no capacity
abbrev pub new_checker : CheckerCapacities
new_checker = record { index = new_index 0; copied = 0; opened = 0 }

-- no list is shorter
abbrev pub KeepsChecker : CheckerCapacities → CheckerCapacities → Type 0
KeepsChecker old new = IsNoShorter old.index new.index × (old.copied ≤ new.copied) × (old.opened ≤ new.opened)

-- a check of the input b within a depth limit needs more memory than there is
abbrev pub IsUnchecked : List ℕ → ℕ → CheckerCapacities → Error → Type 0
IsUnchecked b limit before e = LacksMemory b e × (check_capacity limit before < length b)
