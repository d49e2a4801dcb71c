-- How far the indexes of a block's positions are stored. It serves proofs: only the crate's private clauses cite it.
use Rattle.std.specs.Prelude.{◌≡◌, ℕ, ◌+◌, ◌^◌, ◌<◌, ◌++◌, List, length, take, drop, min}
use Rattle.simd_json_stages.specs.Words.{set_bits}

-- After the first `used` numbers of `before` come the first k of all the indexes; the bits that are left have the others.
-- What follows the indexes has no meaning.
pub record IsStored (before : List ℕ) (used : ℕ) (all : List ℕ) (k : ℕ) (base : ℕ) (now : List ℕ) (left : ℕ) : Type 0 where
  pub len : length now ≡ length before
  pub small : left < 2 ^ 64
  pub stored : take (used + min k (length all)) now ≡ take used before ++ take k all
  pub others : set_bits 64 base left ≡ drop k all
