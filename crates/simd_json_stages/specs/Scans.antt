-- What a scan of a whole input finds, and its errors where memory is short or the input is not UTF-8. Public contracts rest on it.
use Rattle.std.specs.Prelude.{◌≡◌, ◌≤◌, ◌<◌, ◌⊎◌, ℕ, List, length, take, Bool, None, IsUtf8}
use Rattle.simd_json_parts.specs.Faults.{whole_fault}
use Rattle.simd_json_parts.specs.InputFaults.{has_bad_string, input_fault}
use Rattle.simd_json_parts.specs.Limits.{max_length}
use Rattle.simd_json_parts.specs.Positions.{positions}
use Rattle.simd_json_parts.specs.declared.error.Error.{Error}
use Rattle.simd_json_parts.specs.declared.error.ErrorType.TheVariants.{InvalidUtf8, OutOfMemory}
use Rattle.simd_json_stages.specs.EscapeBlocks.{blocks_in, backslash_blocks}
use Rattle.simd_json_stages.specs.declared.stage1.Found.{Found}
use Rattle.simd_json_stages.specs.declared.stage2.Scanned.{Scanned}

-- the list of positions is shorter than the input, or the list of blocks than its number of blocks
abbrev pub IsShort : List ℕ → List ℕ → List ℕ → Type 0
IsShort b positions blocks = (length positions < length b) ⊎ (length blocks < blocks_in (length b))

-- An allocation failed. None is asked for before size and encoding are known to be right, nor where neither list is short.
abbrev pub LacksListMemory : List ℕ → Error → List ℕ → List ℕ → Type 0
LacksListMemory b e positions blocks = (e ≡ whole_fault OutOfMemory) × (length b ≤ max_length) × IsUtf8 b × IsShort b positions blocks

-- the input is not UTF-8
abbrev pub IsBadEncoding : List ℕ → Error → Type 0
IsBadEncoding b e = (e ≡ whole_fault InvalidUtf8) × ¬ IsUtf8 b

-- What a scan finds in an input that is UTF-8: whether some string is bad, and at the front of either list the positions and the
-- blocks that hold a backslash.
pub record IsFound (b : List ℕ) (is_bad : Bool) (found : Found) (structural_indexes : List ℕ) (escape_blocks : List ℕ) : Type 0 where
  pub encoding : IsUtf8 b
  pub bad : is_bad ≡ has_bad_string b
  pub within : found.positions ≤ length structural_indexes
  pub listed : take found.positions structural_indexes ≡ positions b
  pub blocks_within : found.escape_blocks ≤ length escape_blocks
  pub blocks_listed : take found.escape_blocks escape_blocks ≡ backslash_blocks b

-- what is handed on of an input without a fault of the whole
pub record IsScanOf (b : List ℕ) (s : Scanned) : Type 0 where
  pub positions : s.structural_indexes.now ≡ positions b
  pub escapes : s.escape_blocks.now ≡ backslash_blocks b
  pub whole : input_fault b ≡ None
