-- Which backslashes are ahead of an index, by a walk along the blocks that hold one.
use Rattle.std.specs.Prelude.{◌≡◌, ◌≢◌, ◌≤◌, ◌<◌, ℕ, List, length}
use Rattle.simd_json_parts.specs.Bytes.{backslash, byte_at}
use Rattle.simd_json_stages.specs.EscapeBlocks.{backslash_blocks, listed_start}
use Rattle.simd_json_stages.specs.declared.stage2.escapes.Escapes.{Escapes}

-- no byte from index k up to m is a backslash
abbrev pub PlainFrom : List ℕ → ℕ → ℕ → Type 0
PlainFrom b k m = (j : ℕ) → k ≤ j → j < m → byte_at b j ≢ backslash

-- The listed blocks before this number are passed: from index `at` up to where the next one begins there is no backslash.
pub record ArePassed (b listed : List ℕ) (next at : ℕ) : Type 0 where
  pub blocks : listed ≡ backslash_blocks b
  pub within : next ≤ length listed
  pub plain : PlainFrom b at (listed_start b next)

-- so far the walk has come, and from there up to its mark there is no backslash
pub record AreAhead (b : List ℕ) (e : Escapes) (at : ℕ) : Type 0 where
  pub passed : ArePassed b e.blocks.now e.next at
  pub plain : PlainFrom b at e.mark
