-- What a program refuses of its command line, and how it ends.
use Rattle.std.specs.Prelude.{ℕ, List, [], ◌∷◌, Option, Some, None, Bool, true, false, Result, Ok, Err, if◌then◌else◌}
use Rattle.std.specs.Char.{is_ascii_digit}
use Rattle.std.specs.IoError.{error_kind}
use Rattle.std.specs.List.{list_all}
use Rattle.std.specs.declared.io.Error.{Error}
use Rattle.std.specs.declared.io.ErrorKind.{ErrorKind}
use Rattle.std.specs.declared.io.ErrorKind.TheVariants.{BrokenPipe, OutOfMemory}
use Rattle.clap.specs.Kinds.{Kinds}
use Rattle.clap.specs.declared.error.kind.ErrorKind as clap
use Rattle.clap.specs.declared.error.kind.ErrorKind.TheVariants as fault

-- who reads the output has closed it
abbrev pub is_pipe : ErrorKind → Bool
is_pipe BrokenPipe = true
is_pipe _ = false

abbrev pub has_pipe_error : {T : Type 0} → Result T Error → Bool
has_pipe_error (Ok x) = false
has_pipe_error (Err e) = is_pipe (error_kind e)

-- after it printed its help
abbrev pub help_status : Result Unit Error → ℕ
help_status (Ok u) = 0
help_status (Err e) = if is_pipe (error_kind e) then 0 else 3

abbrev pub is_memory : ErrorKind → Bool
is_memory OutOfMemory = true
is_memory _ = false

-- without the words of its command line
abbrev pub words_status : Error → ℕ
words_status e = if is_memory (error_kind e) then 3 else 2

-- where it refuses its arguments
abbrev pub fault_status : clap.ErrorKind → ℕ
fault_status fault.OutOfMemory = 3
fault_status _ = 2

-- of the number of an option, if it is given: digits alone are none
abbrev pub number_faults : Option (List ℕ) → Kinds
number_faults None = []
number_faults (Some number) = if list_all is_ascii_digit number then [] else fault.ValueValidation ∷ []
