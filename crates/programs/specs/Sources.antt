-- A file or standard input, and what is left of it.
use Rattle.std.specs.Prelude.{ℕ, List, [], codes, bytes_eq, if◌then◌else◌, Option, Some}
use Rattle.programs.specs.declared.source.State.{State}
use Rattle.programs.specs.declared.source.State.TheVariants.{Unopened, Standard, Open, Ended}

-- standard input by the name `-`, or else a file
abbrev pub named : {F I : Type 0} → List ℕ → I → State F I
named name standard = if bytes_eq name (codes "-") then Standard standard else Unopened

-- by what the file holds before it is opened, and by what is known of open files and of standard input
abbrev pub left_in : {F I : Type 0} → Option (List ℕ) → (F → Option (List ℕ)) → (I → Option (List ℕ)) → State F I → Option (List ℕ)
left_in held of_file of_standard Unopened = held
left_in held of_file of_standard (Standard standard) = of_standard standard
left_in held of_file of_standard (Open file) = of_file file
left_in held of_file of_standard Ended = Some []
