-- Bytes that are printed as they stand. Only private clauses cite it.
use Rattle.std.specs.Prelude.{ℕ, ◌≤◌, ◌<◌, List, get_or, Bool, ◌||◌, IsFalse}
use Rattle.simd_json_parts.specs.Bytes.{is_control}
use Rattle.simd_json_scalars.specs.StringContent.{is_stop}

-- a quote, a backslash, or below 0x20
abbrev pub needs_escape : ℕ → Bool
needs_escape c = is_stop c || is_control c

-- those from one index up to another
abbrev pub AreUnescaped : List ℕ → ℕ → ℕ → Type 0
AreUnescaped bytes from end = (k : ℕ) → from ≤ k → k < end → IsFalse (needs_escape (get_or bytes k 0))
