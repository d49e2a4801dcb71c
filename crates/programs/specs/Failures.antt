-- Why a run over lines ended before the end of its input, and what is said of how it ended: a line on standard error, and a status.
use Rattle.std.specs.Prelude.{◌≡◌, ℕ, List, codes, take, Option, Some, None, Bool, true, false, Result, Ok, Err, MatchResult}
use Rattle.std.specs.Io.KnownBytes.{Appends, Consumes}
use Rattle.programs.specs.Ports.{Watched}
use Rattle.programs.specs.declared.failure.Failure.{Failure}
use Rattle.programs.specs.declared.failure.Failure.TheVariants.{Read, Write, Name, Closed, Resources}

-- whether no line was rejected, or why it ended before the end of its input; who closes the output has had enough of it
abbrev pub run_status : Result Bool Failure → ℕ
run_status (Ok true) = 0
run_status (Ok false) = 1
run_status (Err (Closed true)) = 0
run_status (Err (Closed false)) = 1
run_status (Err _) = 3

-- what failed: an output, whose error is to follow, or an allocation; where reading failed, another line names the file
abbrev pub line_of : Result Bool Failure → Option (List ℕ)
line_of (Err Write) = Some (codes "standard output")
line_of (Err Name) = Some (codes "standard error")
line_of (Err Resources) = Some (codes "out of memory")
line_of _ = None

-- writing what was asked for failed, or its reader has closed it
abbrev pub is_write : Failure → Bool
is_write Write = true
is_write (Closed taken) = true
is_write _ = false

-- what a call ends in that fails to write it, by whether its reader has closed it, and whether no line was rejected so far
abbrev pub output_fault : Bool → Bool → Failure
output_fault true taken = Closed taken
output_fault false taken = Write

-- of a writer whose reader has closed it or not: a failure to write says which
abbrev pub SaysClosed : Bool → Failure → Type 0
SaysClosed closed (Closed taken) = closed ≡ true
SaysClosed closed Write = closed ≡ false
SaysClosed closed _ = Unit

-- what a call on a port that had not failed ends in, if its failures come from that port or from want of memory: of a reader
abbrev pub read_fault : Bool → Failure
read_fault true = Read
read_fault false = Resources

-- and of a writer that names rejected lines
abbrev pub name_fault : Bool → Failure
name_fault true = Name
name_fault false = Resources

-- of such a call: P, and the port has not failed; or a failure, and Q
abbrev pub Ends : {T : Type 0} → Watched T → Watched T → Type 0 → Type 0 → Result Unit Failure → Type 0
Ends old new P Q result =
    old.failed ≡ false → MatchResult result (λ _. (new.failed ≡ false) × P) (λ failure. (failure ≡ name_fault new.failed) × Q)

-- of a writer that held and holds these: a beginning of the bytes was written
abbrev pub Begins : Option (List ℕ) → Option (List ℕ) → List ℕ → Type 0
Begins held holds bytes = (count : ℕ) × Appends held holds (take count bytes)

-- what a call ends in that reads from a port that had not failed: P, or a failure, and some bytes were read
abbrev pub EndsRead : {T : Type 0} → Bool → Option (List ℕ) → Option (List ℕ) → (T → Type 0) → Result T Failure → Type 0
EndsRead failed before after P result = MatchResult result (λ x. (failed ≡ false) × P x)
    (λ failure. (failure ≡ read_fault failed) × (more : List ℕ) × Consumes before after more)
