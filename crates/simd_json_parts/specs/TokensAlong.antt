-- The tokens of b whose first bytes have these indexes, up to the first that has a fault or is stray. It serves
-- proofs: contracts of laws and readers cite it.
use Rattle.std.specs.Prelude.{ℕ, List, [], ◌∷◌, Bool, is_some, if◌then◌else◌}
use Rattle.simd_json_parts.specs.Tokens.{Token, Form, form_at, form_end}

-- tokens go on after it, wherever it stands
abbrev pub goes_on : Form → Bool
goes_on form = is_some (form_end 0 form)

abbrev pub tokens_along : List ℕ → List ℕ → List Token
tokens_along b [] = []
tokens_along b (i ∷ is) = record { index = i; form = form_at b i } ∷ (if goes_on (form_at b i) then tokens_along b is else [])
