-- How the program ends after runs over files.
use Rattle.std.specs.Prelude.{ℕ, max, List, Bool, true, false, not, ◌&&◌, if◌then◌else◌, Result, Ok, Err}
use Rattle.programs.specs.Failures.{run_status}
use Rattle.programs.specs.Turns.{HasRunEach}
use Rattle.programs.specs.declared.failure.Failure.{Failure}
use Rattle.programs.specs.declared.failure.Failure.TheVariants.{Closed}
use Rattle.jpick.specs.declared.lines.Taken.{Taken}
use Rattle.jpick.specs.declared.lines.Taken.TheVariants.{All, NotAll, Document}

-- nobody reads the output any more, or it is to be asked otherwise
abbrev pub skips_files : Result Taken Failure → Bool
skips_files (Err (Closed taken)) = true
skips_files (Ok Document) = true
skips_files _ = false

abbrev pub status_of : Result Taken Failure → ℕ
status_of (Ok All) = 0
status_of (Ok NotAll) = 1
status_of (Ok Document) = 2
status_of (Err failure) = run_status (Err failure)

abbrev pub status_after : ℕ → Result Taken Failure → ℕ
status_after status r = max status (status_of r)

-- The files had runs in turn, up to the first after which they are skipped, and the status is the greatest of them.
abbrev pub HasPickedEach : {S X : Type 0} → (S → X → Result Taken Failure → S → Type 0) → S → List X → ℕ → Type 0
HasPickedEach step s files status = HasRunEach step skips_files status_after 0 s files status

-- at least 1 if rows are needed, and none was written
abbrev pub status_by_rows : ℕ → Bool → Bool → ℕ
status_by_rows status needs has = if needs && not has then max status 1 else status
