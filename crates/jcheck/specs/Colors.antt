-- When the caret is red.
use Rattle.std.specs.Prelude.{ℕ, List, [], ◌∷◌, Bool, true, false, ◌&&◌, Option, None, Some, Result, Ok, Err}
use Rattle.std.specs.declared.env.VarError.{VarError}
use Rattle.std.specs.declared.env.VarError.TheVariants.{NotPresent}

-- by the environment's word NO_COLOR, if it has one
abbrev pub allows_color : Result (List ℕ) VarError → Bool
allows_color (Ok []) = true
allows_color (Ok (x ∷ xs)) = false
allows_color (Err NotPresent) = true
allows_color (Err _) = false

-- as the arguments ask, else on a terminal, where that word allows it
abbrev pub is_colored : Option Bool → Result (List ℕ) VarError → Bool → Bool
is_colored (Some asked) word is_terminal = asked
is_colored None word is_terminal = is_terminal && allows_color word
