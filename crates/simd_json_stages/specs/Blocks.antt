-- What a scan by blocks of 64 bytes keeps between two blocks, and what it finds in one. It serves proofs: only the crate's
-- private clauses cite it.
use Rattle.std.specs.Prelude.{◌≡◌, ℕ, zero, suc, ◌+◌, ◌-◌, ◌*◌, ◌^◌, ◌<◌, ◌≤◌, ◌==◌, List, length, take, filter, Bool, true, false, not}
use Rattle.std.specs.Prelude.{◌&&◌, ◌||◌, ◌⊎◌, slice_index, slice_index_or}
use Rattle.std.specs.List.{list_any, range_with_len}
use Rattle.std.specs.Int.{from_bool}
use Rattle.simd_json_parts.specs.Bytes.{backslash, is_whitespace, is_structural, is_control, byte_at}
use Rattle.simd_json_parts.specs.Positions.{is_real_quote, is_inside, is_position}
use Rattle.simd_json_stages.specs.Words.{HasBits, parity}
use Rattle.simd_json_stages.specs.Classes.{is_space_or_quote, is_op_or_quote}
use Rattle.simd_json_stages.specs.EscapeBlocks.{holds_backslash}
use Rattle.simd_json_stages.specs.Carries.{is_escaped_at, is_open_at, has_control_before}
use Rattle.simd_json_stages.specs.declared.stage1.words.Carry.{Carry}
use Rattle.simd_json_stages.specs.declared.stage1.words.BlockStarts.{BlockStarts}
use Rattle.simd_json_stages.specs.declared.stage1.words.Parts.{Parts}
use Rattle.simd_json_stages.specs.declared.stage1.words.Classified.{Classified}
use Rattle.simd_json_stages.specs.declared.stage1.scan.Placing.{Placing}
use Rattle.simd_json_stages.specs.declared.stage1.scan.ScanState.{ScanState}
use Rattle.simd_json_stages.specs.declared.stage1.scan.Classifying.{Classifying}

-- the byte at index i continues a token, wherever it is
abbrev pub is_plain : List ℕ → ℕ → Bool
is_plain b i = not ((is_structural (byte_at b i) || is_whitespace (byte_at b i)) || is_real_quote b i)

-- the byte before index i does
unfoldable pub is_plain_before : List ℕ → ℕ → Bool
is_plain_before b zero = false
is_plain_before b (suc i) = is_plain b i

-- each bit of a word
abbrev pub all_bits : Bool → ℕ
all_bits true = 2 ^ 64 - 1
all_bits false = 0

-- the 64 bytes from index `from` on; past the end of b these are spaces
pub record IsBlock (b : List ℕ) (from : ℕ) (bytes : List ℕ) : Type 0 where
  pub len : length bytes ≡ 64
  pub same : (i : ℕ) → i < 64 → slice_index bytes i ≡ byte_at b (from + i)

-- each whole block
abbrev pub AreBlocks : List ℕ → List (List ℕ) → Type 0
AreBlocks b blocks = (k : ℕ) (d : List ℕ) → k < length blocks → IsBlock b (64 * k) (slice_index_or blocks k d)

-- none of the blocks from one to another holds a backslash
abbrev pub HaveNoBackslash : List (List ℕ) → ℕ → ℕ → Type 0
HaveNoBackslash blocks first end = (k : ℕ) (d : List ℕ) → first ≤ k → k < end
    → list_any (λ x. x == backslash) (slice_index_or blocks k d) ≡ false

-- where a list of `len` numbers has `used` in use, it has capacity for those of these blocks that hold one
abbrev pub CanList : List (List ℕ) → ℕ → ℕ → ℕ → ℕ → Type 0
CanList blocks first end used len = (used + (end - first) ≤ len) ⊎ HaveNoBackslash blocks first end

-- the bytes from one index to another are ASCII
abbrev pub IsAscii : List ℕ → ℕ → ℕ → Type 0
IsAscii b from end = (i : ℕ) → from ≤ i → i < end → byte_at b i < 128

-- the 64 numbers from index `from` on are bytes
abbrev pub HasBytes : List ℕ → ℕ → Type 0
HasBytes b from = (i : ℕ) → i < 64 → byte_at b (from + i) < 256

-- a bit for each control byte of a block
abbrev pub IsControl : List ℕ → ℕ → ℕ → Type 0
IsControl b from control = HasBits control (λ i. is_control (byte_at b (from + i)))

-- a bit for each byte of a block that is of a class, or escaped
pub record HasClasses (b : List ℕ) (from s o c e : ℕ) : Type 0 where
  pub bytes : HasBytes b from
  pub space_or_quote : HasBits s (λ i. is_space_or_quote (byte_at b (from + i)))
  pub op_or_quote : HasBits o (λ i. is_op_or_quote (byte_at b (from + i)))
  pub control : IsControl b from c
  pub escaped : HasBits e (λ i. is_escaped_at b (from + i))

-- what is found in a block by itself
pub record AreClassified (b : List ℕ) (from : ℕ) (m : Classified) : Type 0 where
  pub classes : HasClasses b from m.space_or_quote m.op_or_quote m.control m.escaped
  pub next : m.next ≡ from_bool (is_escaped_at b (from + 64))
  pub ascii : m.high ≡ 0 → IsAscii b from (from + 64)
  pub escapes : m.has_backslash ≡ list_any (λ i. byte_at b i == backslash) (range_with_len from 64)

-- what it tells before it is known whether it begins inside a string
pub record AreParts (b : List ℕ) (from : ℕ) (p : Parts) : Type 0 where
  pub bytes : HasBytes b from
  pub plain : HasBits p.plain (λ i. is_plain b (from + i))
  pub space : HasBits p.space (λ i. is_whitespace (byte_at b (from + i)))
  pub quote : HasBits p.quote (λ i. is_real_quote b (from + i))
  pub parity : HasBits p.parity (λ i. parity p.quote (i + 1))

-- what is kept before index i, in words
pub record IsCarried (b : List ℕ) (i : ℕ) (c : Carry) : Type 0 where
  pub inside : c.inside ≡ all_bits (is_open_at b i)
  pub plain : c.plain ≡ from_bool (is_plain_before b i)

-- what is found in a block, from what is kept before it
pub record AreStarts (b : List ℕ) (from : ℕ) (m : BlockStarts) : Type 0 where
  pub starts : HasBits m.starts (λ i. is_position b (from + i))
  pub bad : HasBits m.bad (λ i. is_inside b (from + i) && is_control (byte_at b (from + i)))
  pub carry : IsCarried b (from + 64) m.carry

-- After the first k blocks: whether the next byte is escaped, and at the front of the list those of them that hold a backslash.
pub record IsClassified (b : List ℕ) (k : ℕ) (s : Classifying) (listed : List ℕ) : Type 0 where
  pub escaped : s.escaped ≡ from_bool (is_escaped_at b (64 * k))
  pub few : s.listed ≤ k
  pub within : s.listed ≤ length listed
  pub found : take s.listed listed ≡ filter (holds_backslash b) (range_with_len 0 k)

-- After the first k blocks: what the next one needs, and at the front of the list their positions.
pub record IsPlaced (b : List ℕ) (k : ℕ) (p : Placing) (out : List ℕ) : Type 0 where
  pub carried : IsCarried b (64 * k) p.carry
  pub bad : (p.bad == 0) ≡ not (has_control_before b (64 * k))
  pub few : p.used ≤ 64 * k
  pub within : p.used ≤ length out
  pub found : take p.used out ≡ filter (is_position b) (range_with_len 0 (64 * k))

-- both
pub record IsScanned (b : List ℕ) (k : ℕ) (s : ScanState) (out : List ℕ) (listed : List ℕ) : Type 0 where
  pub classified : IsClassified b k s.classifying listed
  pub placed : IsPlaced b k s.placing out
