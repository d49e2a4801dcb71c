-- The words of the first n blocks of a group, which begins with the block `first`. It serves proofs: only the crate's private
-- clauses cite it.
use Rattle.std.specs.Prelude.{◌≡◌, ℕ, ◌+◌, ◌*◌, ◌<◌, ◌≤◌, List, false, slice_index}
use Rattle.simd_json_parts.specs.Positions.{is_real_quote}
use Rattle.simd_json_stages.specs.Blocks.{HasClasses, IsControl, AreParts}
use Rattle.simd_json_stages.specs.declared.stage1.scan.groups.GroupClasses.{GroupClasses}
use Rattle.simd_json_stages.specs.declared.stage1.scan.groups.GroupParts.{GroupParts}

-- the classes of each
abbrev pub HaveClasses : List ℕ → ℕ → ℕ → GroupClasses → Type 0
HaveClasses b first n c = (k : ℕ) → k < n → HasClasses b (64 * (first + k)) (slice_index c.space_or_quote k)
    (slice_index c.op_or_quote k) (slice_index c.control k) (slice_index c.escaped k)

-- the control bytes of each
abbrev pub HaveControl : List ℕ → ℕ → ℕ → List ℕ → Type 0
HaveControl b first n control = (k : ℕ) → k < n → IsControl b (64 * (first + k)) (slice_index control k)

-- the parts of each
abbrev pub HaveParts : List ℕ → ℕ → ℕ → GroupParts → Type 0
HaveParts b first n p = (k : ℕ) → k < n → AreParts b (64 * (first + k)) (record {
  parity = slice_index p.parity k;
  plain = slice_index p.plain k;
  space = slice_index p.space k;
  quote = slice_index p.quote k;
})

-- no real quote from one index to another
abbrev pub HasNoQuotes : List ℕ → ℕ → ℕ → Type 0
HasNoQuotes b from end = (i : ℕ) → from ≤ i → i < end → is_real_quote b i ≡ false
