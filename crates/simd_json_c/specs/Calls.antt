-- What each call tells, and what it leaves in the memory that it was lent.
use Rattle.std.specs.Prelude.{◌≡◌, ◌≤◌, ◌<◌, ◌⊎◌, ◌++◌, ℕ, ℤ, pos, List, length, drop, Option, Some, None}
use Rattle.simd_json_parts.specs.Nodes.{Item}
use Rattle.simd_json_parts.specs.declared.error.Error.{Error}
use Rattle.simd_json_stages.specs.Capacities.{LacksMemory}
use Rattle.simd_json.specs.Parsed.{IsParsed, IsRejected}
use Rattle.simd_json_c.specs.Statuses.{error_place, error_status, too_little_room}
use Rattle.simd_json_c.specs.declared.status.ErrorPlace.{ErrorPlace}

-- a check of b, where there was capacity for `capacity` bytes: a document within the limits, or the error that a parse has
abbrev pub IsCheckOf : List ℕ → ℕ → ℕ → Option Error → Type 0
IsCheckOf b limit capacity None = (ns : List Item) × IsParsed b limit ns
IsCheckOf b limit capacity (Some e) = IsRejected b limit e ⊎ (LacksMemory b e × (capacity < length b))

-- what a call returns of it
abbrev pub IsCheckReported : List ℕ → ℕ → ℕ → ℤ → ErrorPlace → Type 0
IsCheckReported b limit capacity status place =
    (fault : Option Error) × IsCheckOf b limit capacity fault × (status ≡ error_status fault) × (place ≡ error_place fault)

-- these are at the front, and what was behind them is there still
abbrev pub IsAtFront : {A : Type 0} → List A → List A → List A → Type 0
IsAtFront xs old new = new ≡ xs ++ drop (length xs) old

-- a text is put, or has too little room and all stays as it is
abbrev pub IsTextPut : List ℕ → ℤ → ℕ → List ℕ → List ℕ → Type 0
IsTextPut text status needed old new =
    (needed ≡ length text)
    × (((status ≡ pos 0) × IsAtFront text old new) ⊎ ((status ≡ too_little_room) × (new ≡ old) × (length old < length text)))

-- a name is put where there is room for it
abbrev pub IsNamed : List ℕ → ℕ → List ℕ → List ℕ → Type 0
IsNamed name len old new =
    (len ≡ length name) × ((length name ≤ length old × IsAtFront name old new) ⊎ ((length old < length name) × (new ≡ old)))
