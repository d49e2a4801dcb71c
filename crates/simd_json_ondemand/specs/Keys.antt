-- The string at a key.
use Rattle.std.specs.Prelude.{ℕ, List, Bool, false, Option, Some, None, bytes_eq}

-- whether there is a string, and it is the key
abbrev pub is_key : List ℕ → Option (List ℕ) → Bool
is_key key (Some s) = bytes_eq s key
is_key key None = false
