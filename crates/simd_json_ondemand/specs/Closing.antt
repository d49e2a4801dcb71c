-- Where a value ends among the structural indexes, by brackets alone. Nothing is asked of the other bytes, nor
-- whether brackets match: over a value that is read, it ends where the descent does, and so says a law.
use Rattle.std.specs.Prelude.{ℕ, zero, suc, ◌<◌, List, [], ◌∷◌, length, map, slice_index, if◌then◌else◌}
use Rattle.simd_json_parts.specs.Bytes.{byte_at, is_closing, is_opening}

-- how many containers are open after a token with this first byte, where suc n are before it
abbrev pub open_after : ℕ → ℕ → ℕ
open_after n c = if is_opening c then suc (suc n) else if is_closing c then n else suc n

-- The first bytes of tokens are given. How many tokens are passed until the container that is open `depth` times is
-- closed: all of them where it never is.
unfoldable pub closed_at : ℕ → List ℕ → ℕ
closed_at depth [] = 0
closed_at zero (c ∷ cs) = 0
closed_at (suc n) (c ∷ cs) = suc (closed_at (open_after n c) cs)

-- the first bytes of the tokens at these indexes
abbrev pub first_bytes : List ℕ → List ℕ → List ℕ
first_bytes b is = map (byte_at b) is

-- how many of these indexes the value at the first of them takes
abbrev pub span : List ℕ → List ℕ → ℕ
span b [] = 0
span b (i ∷ is) = if is_opening (byte_at b i) then suc (closed_at 1 (first_bytes b is)) else 1

-- how many containers are open after these tokens; none from where the container is closed
unfoldable pub open_through : ℕ → List ℕ → ℕ
open_through depth [] = depth
open_through zero (c ∷ cs) = 0
open_through (suc n) (c ∷ cs) = open_through (open_after n c) cs

-- each of these indexes is of a byte of b
abbrev pub AreWithin : List ℕ → List ℕ → Type 0
AreWithin b is = (k : ℕ) → k < length is → slice_index is k < length b
