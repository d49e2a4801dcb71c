-- Real quotes, what is inside, and the structural positions. No blocks and no masks: each is asked of one index.
-- Faults rest on it.
use Rattle.std.specs.Prelude.{ℕ, zero, suc, ◌%◌, List, filter, Bool, true, not, ◌&&◌, ◌||◌, ◌==◌, if◌then◌else◌}
use Rattle.std.specs.List.{list_any}
use Rattle.simd_json_parts.specs.Bytes.{quote, backslash, is_whitespace, is_structural, is_control, byte_at, indices}

abbrev pub is_even : ℕ → Bool
is_even n = n % 2 == 0

-- the length of the run of backslashes that ends just before index i
unfoldable pub backslashes_before : List ℕ → ℕ → ℕ
backslashes_before b zero = 0
backslashes_before b (suc i) = if byte_at b i == backslash then suc (backslashes_before b i) else 0

-- a quote, after a run of backslashes of even length
unfoldable pub is_real_quote : List ℕ → ℕ → Bool
is_real_quote b i = (byte_at b i == quote) && is_even (backslashes_before b i)

-- how many of the first n indexes are real quotes
unfoldable pub real_quotes : List ℕ → ℕ → ℕ
real_quotes b zero = 0
real_quotes b (suc n) = if is_real_quote b n then suc (real_quotes b n) else real_quotes b n

-- the number of real quotes up to and including i is odd
unfoldable pub is_inside : List ℕ → ℕ → Bool
is_inside b i = not (is_even (real_quotes b (suc i)))

-- neither inside nor a real quote
abbrev pub is_outside : List ℕ → ℕ → Bool
is_outside b i = not (is_inside b i) && not (is_real_quote b i)

-- whitespace, a structural character that is not inside, or a real quote
abbrev pub ends_token : List ℕ → ℕ → Bool
ends_token b i = is_whitespace (byte_at b i) || (is_structural (byte_at b i) && not (is_inside b i)) || is_real_quote b i

-- index 0, or the index after one that ends a token
abbrev pub is_fresh : List ℕ → ℕ → Bool
is_fresh b zero = true
is_fresh b (suc i) = ends_token b i

-- an opening quote; or, outside, a structural character or the first byte of a token that is none
unfoldable pub is_position : List ℕ → ℕ → Bool
is_position b i =
    (is_real_quote b i && is_inside b i)
    || (is_outside b i && (is_structural (byte_at b i) || (not (is_whitespace (byte_at b i)) && is_fresh b i)))

unfoldable pub positions : List ℕ → List ℕ
positions b = filter (is_position b) (indices b)

-- some byte below 0x20 is inside
unfoldable pub has_control_inside : List ℕ → Bool
has_control_inside b = list_any (λ i. is_inside b i && is_control (byte_at b i)) (indices b)
