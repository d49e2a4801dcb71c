-- Structural indexes that are put into lent memory.
use Rattle.std.specs.Prelude.{◌≡◌, ◌<◌, ◌⊎◌, ℕ, ℤ, pos, List, length, Option, Some, None, MatchOption}
use Rattle.simd_json_parts.specs.InputFaults.{input_fault}
use Rattle.simd_json_parts.specs.Positions.{positions}
use Rattle.simd_json_parts.specs.declared.error.Error.{Error}
use Rattle.simd_json_stages.specs.Capacities.{LacksMemory}
use Rattle.simd_json_c.specs.Calls.{IsAtFront}
use Rattle.simd_json_c.specs.Statuses.{error_place, error_status, too_little_room}
use Rattle.simd_json_c.specs.declared.status.ErrorPlace.{ErrorPlace}

-- how many there are; they are put, or have too little room and all stays as it is
abbrev pub AreIndexesPut : List ℕ → ℤ → ℕ → List ℕ → List ℕ → Type 0
AreIndexesPut is status used old new =
    (used ≡ length is)
    × (((status ≡ pos 0) × IsAtFront is old new) ⊎ ((status ≡ too_little_room) × (new ≡ old) × (length old < length is)))

-- the error of the whole input, or an allocation failed, where the lists had capacity for fewer bytes
abbrev pub IsUnscanned : ℕ → List ℕ → Error → Type 0
IsUnscanned capacity b e = (input_fault b ≡ Some e) ⊎ (LacksMemory b e × (capacity < length b))

-- by a call with lists of its own
abbrev pub IsIndexed : List ℕ → ℤ → ErrorPlace → ℕ → ℕ → List ℕ → List ℕ → Type 0
IsIndexed b status place old_used used old new =
    (fault : Option Error) × (place ≡ error_place fault)
    × MatchOption fault
    ((input_fault b ≡ None) × AreIndexesPut (positions b) status used old new)
    (λ e. (status ≡ error_status fault) × (used ≡ old_used) × (new ≡ old) × IsUnscanned 0 b e)
