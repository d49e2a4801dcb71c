-- Which elements a slice selects (RFC 9535, section 2.3.4).
use Rattle.std.specs.Prelude.{ℕ, zero, suc, ◌-◌, min, ℤ, pos, negsuc, List, [], ◌∷◌, length, drop, take, reverse, Option, Some, None}
use Rattle.simd_json_parts.specs.Document.{Document, array, elements}
use Rattle.simd_json_query.specs.declared.query.Slice.{Slice}

-- an index as a bound within so many; below zero it counts from the end
abbrev pub bound : ℤ → ℕ → ℕ
bound (pos i) len = min i len
bound (negsuc i) len = len - suc i

abbrev pub bound_or : Option ℤ → ℕ → ℕ → ℕ
bound_or None default len = default
bound_or (Some i) default len = bound i len

-- all but so many, and then all but so many after each one
abbrev pub every : {A : Type 0} → ℕ → ℕ → List A → List A
every gap skip [] = []
every gap zero (x ∷ xs) = x ∷ every gap gap xs
every gap (suc skip) (x ∷ xs) = every gap skip xs

-- forward, from the start up to the end
abbrev pub forward : {A : Type 0} → Slice → ℕ → List A → List A
forward s gap xs = every gap 0 (drop (bound_or s.start 0 (length xs)) (take (bound_or s.end (length xs) (length xs)) xs))

-- the index after an index, as a bound
abbrev pub bound_after : ℤ → ℕ → ℕ
bound_after (pos i) len = min (suc i) len
bound_after (negsuc i) len = len - i

abbrev pub bound_after_or : Option ℤ → ℕ → ℕ → ℕ
bound_after_or None default len = default
bound_after_or (Some i) default len = bound_after i len

-- back, from the start down to the index after the end
abbrev pub backward : {A : Type 0} → Slice → ℕ → List A → List A
backward s gap xs =
    every gap 0 (reverse (drop (bound_after_or s.end 0 (length xs)) (take (bound_after_or s.start (length xs) (length xs)) xs)))

abbrev pub by_step : {A : Type 0} → Slice → ℤ → List A → List A
by_step s (pos zero) xs = []
by_step s (pos (suc gap)) xs = forward s gap xs
by_step s (negsuc gap) xs = backward s gap xs

abbrev pub sliced : Slice → Document → List Document
sliced s (array ds) = by_step s s.step (elements ds)
sliced s _ = []
