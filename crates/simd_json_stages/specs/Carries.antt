-- What a scan from left to right keeps of the bytes before an index. It serves proofs: only the crate's private clauses cite it.
use Rattle.std.specs.Prelude.{ℕ, ◌≤◌, List, length, take, Bool, not, ◌&&◌, IsUtf8}
use Rattle.std.specs.List.{list_any, range_with_len}
use Rattle.simd_json_parts.specs.Bytes.{is_control, byte_at}
use Rattle.simd_json_parts.specs.Positions.{is_even, backslashes_before, real_quotes, is_inside}

-- the run of backslashes that ends just before index i has odd length
abbrev pub is_escaped_at : List ℕ → ℕ → Bool
is_escaped_at b i = not (is_even (backslashes_before b i))

-- there is an odd number of real quotes before index i
abbrev pub is_open_at : List ℕ → ℕ → Bool
is_open_at b i = not (is_even (real_quotes b i))

-- some byte below 0x20 is inside, of the first n
abbrev pub has_control_before : List ℕ → ℕ → Bool
has_control_before b n = list_any (λ k. is_inside b k && is_control (byte_at b k)) (range_with_len 0 n)

-- the first n bytes are UTF-8
abbrev pub IsChecked : List ℕ → ℕ → Type 0
IsChecked b n = (n ≤ length b) × IsUtf8 (take n b)
