-- What a run of the program leaves.
use Rattle.std.specs.Prelude.{◌≡◌, ◌⊎◌, ◌∷◌, ◌++◌, ℕ, List, take, ⊤, Bool, Option, Result, Ok, Err}
use Rattle.std.specs.Io.KnownBytes.{Appends}
use Rattle.programs.specs.Ports.{HasRead}
use Rattle.programs.specs.declared.failure.Failure.{Failure}
use Rattle.programs.specs.declared.failure.Failure.TheVariants as failures
use Rattle.jtape.specs.Output.{output}
use Rattle.jtape.specs.Pieces.{pieces, pieces_text}
use Rattle.jtape.specs.declared.runs.RunFault.{RunFault}
use Rattle.jtape.specs.declared.runs.RunFault.TheVariants.{Refused, Read}
use Rattle.jtape.specs.declared.words.Mode.{Mode}
use Rattle.simd_json_parts.specs.Faults.{whole_fault}
use Rattle.simd_json_parts.specs.declared.error.ErrorType.TheVariants.{OutOfMemory}

abbrev pub lacks_memory : RunFault
lacks_memory = Refused (whole_fault OutOfMemory)

-- Of such a reader, and a writer that held and holds these: the output of the input was written and returned.
pub record HasRun (mode : Mode) (depth : ℕ) (before after held holds : Option (List ℕ)) (result : Result Bool RunFault) : Type 0 where
  pub input : List ℕ
  pub read : HasRead before after input
  pub written : Appends held holds (output mode depth input).bytes
  pub returned : result ≡ (output mode depth input).returned

-- likewise, where the writer failed: a beginning of that output was written
pub record HasBegun (mode : Mode) (depth : ℕ) (before after held holds : Option (List ℕ)) : Type 0 where
  pub input : List ℕ
  pub read : HasRead before after input
  pub count : ℕ
  pub written : Appends held holds (take count (output mode depth input).bytes)

-- of an input of pieces, the text of all before one of them was written, and nothing else
pub record HasWritten (depth : ℕ) (input : List ℕ) (held holds : Option (List ℕ)) : Type 0 where
  pub earlier : List (List ℕ)
  pub piece : List ℕ
  pub later : List (List ℕ)
  pub cut : pieces input ≡ earlier ++ piece ∷ later
  pub written : Appends held holds (pieces_text depth earlier)

-- in mode `lines`, where an allocation failed at a piece
pub record HasStopped (depth : ℕ) (before after held holds : Option (List ℕ)) : Type 0 where
  pub input : List ℕ
  pub read : HasRead before after input
  pub written : HasWritten depth input held holds

-- what is returned is for want of memory, or by P; nothing is asked where the reader or the writer failed
abbrev pub OnAnswer : Result Bool RunFault → Type 0 → Type 0
OnAnswer (Ok all) P = P
OnAnswer (Err (Refused e)) P = (e ≡ whole_fault OutOfMemory) ⊎ P
OnAnswer (Err _) P = ⊤

-- of a reader that was to be read to its end: it has failed, or an allocation
abbrev pub run_fault : Failure → RunFault
run_fault failures.Read = Read
run_fault _ = lacks_memory
