-- What the program's arguments ask for, and what is said of how a run or the program ended: a line, and a status.
use Rattle.std.specs.Prelude.{ℕ, List, codes, drop, Bool, true, false, Result, Ok, Err}
use Rattle.std.specs.Option.{ok_or}
use Rattle.jtape.specs.Settings.{settings_of}
use Rattle.jtape.specs.declared.runs.Failure.{Failure}
use Rattle.jtape.specs.declared.runs.Failure.TheVariants.{Usage, Run}
use Rattle.jtape.specs.declared.runs.RunFault.{RunFault}
use Rattle.jtape.specs.declared.runs.RunFault.TheVariants.{Refused, Read, Write}
use Rattle.jtape.specs.declared.words.Mode.{Mode}
use Rattle.simd_json_parts.specs.ErrorKinds.{error_text}

-- the line, without its line feed
abbrev pub fault_text : RunFault → List ℕ
fault_text (Refused e) = error_text e
fault_text Read = codes "reading failed"
fault_text Write = codes "writing failed"

abbrev pub answer_status : Result Bool RunFault → ℕ
answer_status (Ok true) = 0
answer_status (Ok false) = 1
answer_status (Err (Refused e)) = 1
answer_status (Err Read) = 3
answer_status (Err Write) = 3

-- ---- of a program: its line, without its line feed

abbrev pub failure_text : Failure → List ℕ
failure_text Usage = codes "usage: jtape MODE [DEPTH]"
failure_text (Run fault) = fault_text fault

abbrev pub exit_status_of : Result Bool Failure → ℕ
exit_status_of (Ok all) = answer_status (Ok all)
exit_status_of (Err Usage) = 2
exit_status_of (Err (Run fault)) = answer_status (Err fault)

-- what the arguments ask for, of which the first is the program's name
abbrev pub requested_of : List (List ℕ) → Result (Mode × ℕ) Failure
requested_of arguments = ok_or (settings_of (drop 1 arguments)) Usage
