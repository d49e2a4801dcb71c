-- How the program ends, and its status.
use Rattle.std.specs.Prelude.{ℕ, List, Bool, true, false, if◌then◌else◌, Result, Ok, Err}
use Rattle.jcheck.specs.Failures.{has_closed}
use Rattle.jcheck.specs.declared.failure.Failure.{Failure}
use Rattle.jcheck.specs.declared.report.Ended.{Ended}
use Rattle.jcheck.specs.declared.report.Ended.TheVariants.{Clean, Rejected, Failed}
use Rattle.programs.specs.Turns.{HasRunEach}

abbrev pub ended_status : Ended → ℕ
ended_status Clean = 0
ended_status Rejected = 1
ended_status Failed = 3

-- of two inputs: the worse of how each ended
abbrev pub worse : Ended → Ended → Ended
worse Clean other = other
worse Rejected Clean = Rejected
worse Rejected other = other
worse Failed other = Failed

-- ---- what the check of a file returned: whether it is clean, or why it ended before

-- nobody reads the output any more
abbrev pub is_closed : Result Bool Failure → Bool
is_closed (Ok clean) = false
is_closed (Err e) = has_closed e

abbrev pub ended_of : Result Bool Failure → Ended
ended_of (Ok true) = Clean
ended_of (Ok false) = Rejected
ended_of (Err e) = if has_closed e then Rejected else Failed

-- after one more
abbrev pub ended_after : Ended → Result Bool Failure → Ended
ended_after ended r = worse ended (ended_of r)

-- The files were checked in turn, up to the first after which nobody reads the output any more, and the program ends as the worst of
-- them.
abbrev pub HasChecked : {S X : Type 0} → (S → X → Result Bool Failure → S → Type 0) → S → List X → Ended → Type 0
HasChecked step s files ended = HasRunEach step is_closed ended_after Clean s files ended
