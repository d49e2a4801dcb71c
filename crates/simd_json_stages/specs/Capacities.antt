-- What a contract sees of an index: what it lists, and for inputs of how many bytes it has capacity. Public contracts rest on it.
use Rattle.std.specs.Prelude.{◌≡◌, ◌≤◌, ◌<◌, ◌⊎◌, ℕ, ◌*◌, List, [], length, take, min, IsUtf8, if◌then◌else◌}
use Rattle.std.specs.Prelude.{Option, Some, None, is_some}
use Rattle.simd_json_parts.specs.Faults.{whole_fault}
use Rattle.simd_json_parts.specs.InputFaults.{input_fault}
use Rattle.simd_json_parts.specs.Limits.{max_length}
use Rattle.simd_json_parts.specs.Positions.{positions}
use Rattle.simd_json_stages.specs.EscapeBlocks.{blocks_in}
use Rattle.simd_json_parts.specs.declared.error.Error.{Error}
use Rattle.simd_json_parts.specs.declared.error.ErrorType.TheVariants.{OutOfMemory}

-- how many containers may be open at a time, where no limit is asked for
abbrev pub default_max_depth : ℕ
default_max_depth = 1024

-- the structural indexes and the blocks with a backslash that are listed; and for how many indexes and how many blocks of 64 bytes
-- there is capacity
pub record IndexCapacities : Type 0 where
  pub listed : List ℕ
  pub escapes : List ℕ
  pub indexes : ℕ
  pub blocks : ℕ

-- how the two lists are seen, of which so many entries are in use
abbrev pub capacities_of : List ℕ → ℕ → List ℕ → ℕ → IndexCapacities
capacities_of list used blocks used_blocks =
    record { listed = take used list; escapes = take used_blocks blocks; indexes = length list; blocks = length blocks }

-- for an input of how many bytes there is capacity
abbrev pub capacity : IndexCapacities → ℕ
capacity r = min r.indexes (64 * r.blocks)

-- the positions that are listed after a check or a parse: none after a fault without a character
abbrev pub positions_after : List ℕ → Option Error → List ℕ
positions_after b None = positions b
positions_after b (Some e) = if is_some e.character then positions b else []

-- of how many bytes a reservation is meant
abbrev pub capped : ℕ → ℕ
capped len = min len max_length

-- nothing is listed, and there is capacity for the indexes and blocks of so many bytes
abbrev pub new_index : ℕ → IndexCapacities
new_index len = record { listed = []; escapes = []; indexes = capped len; blocks = blocks_in (capped len) }

-- no list is shorter
abbrev pub IsNoShorter : IndexCapacities → IndexCapacities → Type 0
IsNoShorter old new = (old.indexes ≤ new.indexes) × (old.blocks ≤ new.blocks)

-- an allocation failed
abbrev pub IsOutOfMemory : Error → Type 0
IsOutOfMemory e = e ≡ whole_fault OutOfMemory

-- so it is in a parse of b: memory is asked for once size and encoding are known to be right
abbrev pub LacksMemory : List ℕ → Error → Type 0
LacksMemory b e = IsOutOfMemory e × (length b ≤ max_length) × IsUtf8 b

-- The error of a scan of b: that of the whole input, as in a parse, or it needs more memory than there is. Memory is asked for once
-- size and encoding are known to be right, and only where there is no capacity for as many bytes.
abbrev pub IsScanError : List ℕ → IndexCapacities → Error → Type 0
IsScanError b before e = (input_fault b ≡ Some e) ⊎ (LacksMemory b e × (capacity before < length b))
