-- When an object and a map say the same. A map is seen as its look-up and its size, and `same` compares a value of
-- it with one of the object. Neither acceptance nor faults rest on it.
use Rattle.std.specs.Prelude.{ℕ, List, length, Bool, true, false, ◌&&◌, ◌==◌, is_none, Option, Some, None}
use Rattle.simd_json_parts.specs.Document.{Document, object, Members, no_members, member, members}
use Rattle.simd_json_parts.specs.Views.{first_with}

abbrev pub has_distinct_names : Members → Bool
has_distinct_names no_members = true
has_distinct_names (member k d ms) = is_none (first_with k ms) && has_distinct_names ms

abbrev pub is_same : {A : Type 0} → (A → Document → Bool) → Document → Option A → Bool
is_same same d None = false
is_same same d (Some x) = same x d

-- each name is in the map, with a value that is the same
abbrev pub are_in : {A : Type 0} → (List ℕ → Option A) → (A → Document → Bool) → Members → Bool
are_in look_up same no_members = true
are_in look_up same (member k d ms) = is_same same d (look_up k) && are_in look_up same ms

-- an object with as many pairs as the map, of distinct names, each in the map
abbrev pub equals_map : {A : Type 0} → (List ℕ → Option A) → ℕ → (A → Document → Bool) → Document → Bool
equals_map look_up size same (object ms) = (length (members ms) == size) && has_distinct_names ms && are_in look_up same ms
equals_map look_up size same _ = false
