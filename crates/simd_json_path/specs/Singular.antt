-- Whether selectors are one of a name or an index.
use Rattle.std.specs.Prelude.{List, [], ◌∷◌, Bool, true, false}
use Rattle.simd_json_query.specs.declared.query.Choice.TheVariants as choice
use Rattle.simd_json_query.specs.declared.query.Selector.{Selector}
use Rattle.simd_json_query.specs.declared.query.Selector.TheVariants as selector

abbrev pub is_one : List Selector → Bool
is_one (selector.Choice (choice.Name name) ∷ []) = true
is_one (selector.Choice (choice.Index i) ∷ []) = true
is_one _ = false
