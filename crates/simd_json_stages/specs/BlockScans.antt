-- What a scan of some blocks in a row requires, and what it ensures. It serves proofs: only the crate's private clauses cite it.
use Rattle.std.specs.Prelude.{◌≡◌, ℕ, ◌+◌, ◌-◌, ◌*◌, ◌^◌, ◌≤◌, List, length}
use Rattle.simd_json_stages.specs.Blocks.{AreBlocks, CanList, IsAscii, IsClassified, IsPlaced, IsScanned}
use Rattle.simd_json_stages.specs.declared.stage1.scan.ScanState.{ScanState}
use Rattle.simd_json_stages.specs.declared.stage1.scan.Classifying.{Classifying}

-- These blocks are there, their indexes are small, and the lists have capacity for all that they may hold.
pub record CanScan (blocks : List (List ℕ)) (first end : ℕ) (s : ScanState) (indexes escapes : List ℕ) : Type 0 where
  pub order : first ≤ end
  pub within : end ≤ length blocks
  pub short : 64 * end ≤ 2 ^ 32
  pub capacity : s.placing.used + 64 * (end - first) ≤ length indexes
  pub block_capacity : CanList blocks first end s.classifying.listed (length escapes)

-- The first step has passed these blocks: those that hold a backslash are listed, and it is known whether all are ASCII.
pub record Classifies (blocks : List (List ℕ)) (first end : ℕ) (before after : Classifying) (old new : List ℕ) : Type 0 where
  pub few : after.listed ≤ before.listed + (end - first)
  pub classified : (b : List ℕ) → AreBlocks b blocks → IsClassified b first before old → IsClassified b end after new
  pub ascii : (b : List ℕ) → AreBlocks b blocks → IsClassified b first before old → after.high ≡ 0
      → (before.high ≡ 0) × IsAscii b (64 * first) (64 * end)

-- Both steps have passed them.
pub record Scans (blocks : List (List ℕ)) (first end : ℕ) (before after : ScanState) (old old_escapes new new_escapes : List ℕ)
    : Type 0 where
  pub classifies : Classifies blocks first end before.classifying after.classifying old_escapes new_escapes
  pub few : after.placing.used ≤ before.placing.used + 64 * (end - first)
  pub placed : (b : List ℕ) → AreBlocks b blocks → IsScanned b first before old old_escapes → IsPlaced b end after.placing new
