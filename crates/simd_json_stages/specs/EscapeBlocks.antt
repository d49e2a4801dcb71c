-- The blocks of 64 bytes that hold a backslash. A string that lies in other blocks has no escape. Public contracts rest on it.
use Rattle.std.specs.Prelude.{ℕ, ◌+◌, ◌*◌, ◌/◌, List, length, get_or, filter, Bool, ◌==◌}
use Rattle.std.specs.List.{list_any, range_with_len}
use Rattle.simd_json_parts.specs.Bytes.{backslash, byte_at}

-- how many blocks n bytes take; the last may be shorter
abbrev pub blocks_in : ℕ → ℕ
blocks_in n = (n + 63) / 64

-- some byte of block k, one of those from 64 * k on, is a backslash
unfoldable pub holds_backslash : List ℕ → ℕ → Bool
holds_backslash b k = list_any (λ i. byte_at b i == backslash) (range_with_len (64 * k) 64)

-- the numbers of the blocks that hold a backslash, in increasing order
unfoldable pub backslash_blocks : List ℕ → List ℕ
backslash_blocks b = filter (holds_backslash b) (range_with_len 0 (blocks_in (length b)))

-- the index at which the listed block of number m begins, in the order of the list, or the end of the last block where there are no more
abbrev pub listed_start : List ℕ → ℕ → ℕ
listed_start b m = 64 * get_or (backslash_blocks b) m (blocks_in (length b))
