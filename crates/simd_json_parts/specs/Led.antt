-- Where the tokens of a JSON Pointer lead, by a relation that says which child each names.
use Rattle.std.specs.Prelude.{◌≡◌, ◌≢◌, ◌<◌, ◌≤◌, ◌+◌, ◌⊎◌, ℕ, List, [], ◌∷◌, length, slice_index, Option, Some, None, Result, Ok}
use Rattle.std.specs.List.{slice_range}
use Rattle.simd_json_parts.specs.Bytes.{slash}
use Rattle.simd_json_parts.specs.Followed.{IsTokenAt}

-- from v on, where i bytes of the pointer were followed, by these steps to w
abbrev pub LeadsBy : {V E : Type 0} → (V → List ℕ → Result (Option V) E → Type 0) → List ℕ → ℕ → V → List (ℕ × V) → ℕ → V → Type 0
LeadsBy names p i v [] j w = (i ≡ j) × (v ≡ w)
LeadsBy names p i v ((e, u) ∷ steps) j w =
    IsTokenAt p i e × names v (slice_range p (i + 1) e) (Ok (Some u)) × LeadsBy names p e u steps j w

-- the first j bytes of the pointer lead to w
abbrev pub LeadsTo : {V E : Type 0} → (V → List ℕ → Result (Option V) E → Type 0) → List ℕ → V → ℕ → V → Type 0
LeadsTo {V} names p v j w = (j ≤ length p) × ((steps : List (ℕ × V)) × LeadsBy names p 0 v steps j w)

-- nothing goes on from there: the pointer ends, no token begins, or it names no child
abbrev pub StopsAt : {V E : Type 0} → (V → List ℕ → Result (Option V) E → Type 0) → List ℕ → ℕ → V → Type 0
StopsAt names p i v =
    i < length p → (slice_index p i ≢ slash) ⊎ ((e : ℕ) × IsTokenAt p i e × names v (slice_range p (i + 1) e) (Ok None))
