-- Which one of some documents has an index.
use Rattle.std.specs.Prelude.{ℕ, zero, suc, List, [], ◌∷◌}
use Rattle.std.specs.declared.ops.ControlFlow.{ControlFlow}
use Rattle.std.specs.declared.ops.ControlFlow.TheVariants.{Break, Continue}
use Rattle.simd_json_parts.specs.Document.{Document}
use Rattle.simd_json.specs.Viewed.{doc}
use Rattle.simd_json.specs.declared.value.tape.value.Value.{Value}

-- that one, or how much the index exceeds their number
abbrev pub nth_of : List Document → ℕ → ControlFlow Document ℕ
nth_of [] index = Continue index
nth_of (d ∷ ds) zero = Break d
nth_of (d ∷ ds) (suc index) = nth_of ds index

abbrev pub nth_document : ControlFlow Value ℕ → ControlFlow Document ℕ
nth_document (Break value) = Break (doc value)
nth_document (Continue left) = Continue left
