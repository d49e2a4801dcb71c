-- A reader or a writer, and what has happened to it.
use Rattle.std.specs.Prelude.{ℕ, List, Bool, false, Option, Result, Ok, Err, nat_lt}
use Rattle.std.specs.Io.KnownBytes.{Consumes, IsAtEnd}

-- whether a call on it failed, whether who reads what it writes has closed it, and whether a read gave no byte
pub record Watched (T : Type 0) : Type 0 where
  pub inner : T
  pub failed : Bool
  pub closed : Bool
  pub ended : Bool

-- a reader with these bytes left before and after was read to its end, and gave this input
pub record HasRead (before after : Option (List ℕ)) (input : List ℕ) : Type 0 where
  pub given : Consumes before after input
  pub end : IsAtEnd after

-- a write has written a byte
abbrev pub took_some : {E : Type 0} → Result ℕ E → Bool
took_some (Ok count) = nat_lt 0 count
took_some (Err e) = false
