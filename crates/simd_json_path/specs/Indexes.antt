-- Which element an index names (RFC 9535, section 2.3.3).
use Rattle.std.specs.Prelude.{ℕ, suc, ◌-◌, nat_lt, ℤ, pos, negsuc, length, cond, slice_get, Option, Some, None, option_and_then}
use Rattle.simd_json_parts.specs.Document.{Document, array, elements}

-- the index of an element among so many; below zero it counts from the end
abbrev pub element_index : ℤ → ℕ → Option ℕ
element_index (pos i) len = Some i
element_index (negsuc i) len = cond (nat_lt i len) (Some (len - suc i)) None

abbrev pub at_index : ℤ → Document → Option Document
at_index i (array ds) = option_and_then (slice_get (elements ds)) (element_index i (length (elements ds)))
at_index i _ = None
