-- Why a check ended before the end of its input.
use Rattle.std.specs.Prelude.{◌≡◌, ℕ, List, codes, Bool, true, false, Option, Some, None, if◌then◌else◌}
use Rattle.std.specs.IoError.{error_kind}
use Rattle.std.specs.declared.io.Error.{Error}
use Rattle.std.specs.declared.io.ErrorKind.TheVariants.{OutOfMemory}
use Rattle.jcheck.specs.declared.failure.Failure.{Failure}
use Rattle.jcheck.specs.declared.failure.Failure.TheVariants.{Input, Output}
use Rattle.programs.specs.Statuses.{is_memory, is_pipe}

abbrev pub error_of : Failure → Error
error_of (Input e) = e
error_of (Output e) = e

abbrev pub is_of_output : Failure → Bool
is_of_output (Input e) = false
is_of_output (Output e) = true

-- an allocation failed
abbrev pub IsShortOfMemory : Failure → Type 0
IsShortOfMemory failure = (is_of_output failure ≡ false) × (error_kind (error_of failure) ≡ OutOfMemory)

-- what is printed, but for the system's own words
abbrev pub known_text : Failure → Option (List ℕ)
known_text failure = if is_memory (error_kind (error_of failure)) then Some (codes "out of memory") else None

-- the name of what failed, of an input with this name
abbrev pub what_failed : Failure → List ℕ → List ℕ
what_failed (Input e) input = input
what_failed (Output e) input = codes "standard output"

-- who reads the output has closed it
abbrev pub has_closed : Failure → Bool
has_closed (Input e) = false
has_closed (Output e) = is_pipe (error_kind e)
