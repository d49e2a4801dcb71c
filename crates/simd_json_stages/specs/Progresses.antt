-- How far the machine is: bounds on what it counts, and from which index on it can read.
use Rattle.std.specs.Prelude.{◌≡◌, ◌≢◌, ◌⊎◌, ◌≤◌, ◌<◌, ℕ, ◌+◌, ◌*◌, ◌-◌, List, length, slice_index, Bool, None, IsTrue}
use Rattle.simd_json_parts.specs.Bytes.{byte_at}
use Rattle.simd_json_parts.specs.InputFaults.{input_fault}
use Rattle.simd_json_parts.specs.Positions.{positions}
use Rattle.simd_json_stages.specs.EscapesAhead.{PlainFrom}
use Rattle.simd_json_stages.specs.declared.stage2.progress.Progress.{Progress}
use Rattle.simd_json_stages.specs.declared.stage2.progress.Following.{Following}
use Rattle.simd_json_stages.specs.declared.stage2.progress.Following.TheVariants as followings
use Rattle.simd_json_stages.specs.declared.stage2.progress.Step.{Step}
use Rattle.simd_json_stages.specs.declared.stage2.progress.Step.TheVariants.{Opened, Read}

-- the last token is at the last position that was read, and this is its first byte
pub record IsRead (b ps : List ℕ) (p : Progress) : Type 0 where
  pub some : 0 < p.read
  pub within : p.read ≤ length ps
  pub last : p.at ≡ slice_index ps (p.read - 1)
  pub first : p.byte ≡ byte_at b p.at

-- q is at the position after p's, and nothing else has changed
pub record IsNext (b ps : List ℕ) (p q : Progress) : Type 0 where
  pub more : p.read < length ps
  pub read : IsRead b ps q
  pub same : q ≡ record p { read = p.read + 1; at = slice_index ps p.read; byte = byte_at b (slice_index ps p.read) }

-- the last position holds a closing bracket
abbrev pub EndsClosed : List ℕ → List ℕ → Type 0
EndsClosed b ps = (byte_at b (slice_index ps (length ps - 1)) ≡ 93) ⊎ (byte_at b (slice_index ps (length ps - 1)) ≡ 125)

-- ps are the positions of b, which ends at a place and is no fault as a whole; closed says that the last position closes
pub record IsOnRoute (closed : Bool) (place : ℕ) (b ps : List ℕ) : Type 0 where
  pub end : place ≡ length b
  pub positions : ps ≡ positions b
  pub whole : input_fault b ≡ None
  pub closes : IsTrue closed → EndsClosed b ps

-- what the copy of the machine of this number relies on: 0 that no byte is a backslash, and all but 2 that the last position closes
pub record IsForCopy (copy : ℕ) (b ps : List ℕ) : Type 0 where
  pub positions : ps ≡ positions b
  pub whole : input_fault b ≡ None
  pub closes : copy ≢ 2 → EndsClosed b ps
  pub plain : copy ≡ 0 → PlainFrom b 0 (length b)

-- Before a value or a key, whose first token is read: it has no node yet. So many nodes are written; they are counted twice, as in
-- `nodes_enough`. Each open container and each member has a node.
pub record IsBefore (b ps : List ℕ) (reads : ℕ → Type 0) (written : ℕ) (p : Progress) : Type 0 where
  pub read : IsRead b ps p
  pub few : 2 * written < p.read + p.depth
  pub deep : p.depth ≤ written
  pub len : p.len ≤ written
  pub input : reads p.at

-- After a value, which has a node beside the open containers': the input can be read from the next position on.
pub record IsAfter (b ps : List ℕ) (reads : ℕ → Type 0) (written : ℕ) (p : Progress) : Type 0 where
  pub read : IsRead b ps p
  pub few : 2 * written ≤ p.read + p.depth + 1
  pub deep : p.depth < written
  pub len : p.len ≤ written
  pub input : p.read < length ps → reads (slice_index ps p.read)

abbrev pub reached : Step → Progress
reached (Opened p) = p
reached (Read p) = p

-- tokens are read, and one more container is open, or none
abbrev pub AdvancesPastValue : Progress → Step → Type 0
AdvancesPastValue p (Opened q) = p.read < q.read
AdvancesPastValue p (Read q) = (p.read ≤ q.read) × (q.depth ≡ p.depth) × (q.container ≡ p.container)

-- tokens are read, and the container stays open or is closed
abbrev pub AdvancesPastMember : Progress → Following → Type 0
AdvancesPastMember p (followings.Next q) = (p.read < q.read) × (q.container ≡ p.container)
AdvancesPastMember p (followings.Closed q) = p.read < q.read
