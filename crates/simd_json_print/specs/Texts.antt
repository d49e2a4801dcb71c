-- A target that takes bytes, and what a text on its way to it was given.
use Rattle.std.specs.Prelude.{◌≡◌, ◌<◌, ℕ, List, ◌++◌, length, max, take, Bool, true, false, ◌||◌, ◌&&◌, ◌==◌, nat_lt, Option, None, Some}
use Rattle.std.specs.Prelude.{option_map, is_some, Result, Ok, Err, MatchResult, is_err}
use Rattle.std.specs.Io.{WritesAtMost}
use Rattle.std.specs.Io.KnownBytes.{Appends, WriteAppends}
use Rattle.simd_json_parts.specs.Document.{Document}
use Rattle.simd_json_parts.specs.Limits.{depth}
use Rattle.simd_json_parts.specs.Listing.{listing}
use Rattle.simd_json_parts.specs.Nodes.{Item}
use Rattle.simd_json_print.specs.declared.text.Text.{Text}

-- the bytes that a target holds and whether a call on it failed, each where that is known
pub record TargetState : Type 0 where
  pub held : Option (List ℕ)
  pub failed : Option Bool

-- it took no byte, though there was one to take
abbrev pub took_none : {E : Type 0} → Result ℕ E → ℕ → Bool
took_none (Ok n) capacity = (n == 0) && nat_lt 0 capacity
took_none (Err e) capacity = false

-- one call with these bytes
pub record Takes {E : Type 0} (old new : TargetState) (result : Result ℕ E) (bytes : List ℕ) : Type 0 where
  pub bound : WritesAtMost result bytes
  pub taken : WriteAppends old.held new.held result bytes
  pub failed : new.failed ≡ option_map (λ failed. failed || is_err result || took_none result (length bytes)) old.failed

-- what is collected, or some bytes where a call has failed
abbrev pub IsUnsent : {E : Type 0} → Option E → List ℕ → List ℕ → Type 0
IsUnsent None collected left = left ≡ collected
IsUnsent (Some fault) collected left = 0 < length left

-- the target failed now, or before
abbrev pub failed_or : Bool → Option Bool → Option Bool
failed_or true before = option_map (λ _. true) before
failed_or _ before = before

-- Since the target was in this state, these bytes were given: what it took, and then what is left.
pub record HasGiven {T : Type 0} {size : ℕ} (state : T → TargetState) (start : TargetState) (text : Text T size)
    (bytes : List ℕ) : Type 0 where
  pub sent : List ℕ
  pub left : List ℕ
  pub is_left : IsUnsent text.fault text.collected left
  pub taken : Appends start.held (state text.target.now).held sent
  pub whole : sent ++ left ≡ bytes
  pub failed : (state text.target.now).failed ≡ failed_or (is_some text.fault) start.failed

-- these bytes were given, after all that was given before; the target is the same
pub record Adds {T : Type 0} {size : ℕ} (state : T → TargetState) (old new : Text T size) (bytes : List ℕ) : Type 0 where
  pub same_target : new.target.ghost_name ≡ old.target.ghost_name
  pub given : (start : TargetState) (before : List ℕ) → HasGiven state start old before → HasGiven state start new (before ++ bytes)

-- a beginning of the bytes was taken, but not all, and the target failed
abbrev pub HasFailed : TargetState → TargetState → List ℕ → Type 0
HasFailed start end bytes =
    ((count : ℕ) × (count < length bytes) × Appends start.held end.held (take count bytes))
    × (end.failed ≡ option_map (λ _. true) start.failed)

-- all bytes were taken and nothing failed; or the target failed
abbrev pub HasEnded : {E : Type 0} → Result Unit E → TargetState → TargetState → List ℕ → Type 0
HasEnded result start end bytes =
    MatchResult result (λ _. Appends start.held end.held bytes × (end.failed ≡ start.failed)) (λ _. HasFailed start end bytes)

-- of any bytes
abbrev pub AddsSome : {T : Type 0} {size : ℕ} → (T → TargetState) → Text T size → Text T size → Type 0
AddsSome state old new = (bytes : List ℕ) × Adds state old new bytes

-- some bytes were given, and of a document with these nodes its text
pub record IsPrinted {T : Type 0} {size : ℕ} (state : T → TargetState) (old new : Text T size) (items : List Item)
    (printed : Document → List ℕ) : Type 0 where
  pub kept : AddsSome state old new
  pub given : (d : Document) → items ≡ listing d → Adds state old new (printed d)

-- Some bytes were given, and of a document with these nodes its text; or if there is an error a beginning of it, and the document nests
-- deeper than there were levels.
pub record IsPrintedBy {T E : Type 0} {size : ℕ} (state : T → TargetState) (old new : Text T size) (items : List Item)
    (printed : Document → List ℕ) (levels : ℕ) (result : Result Unit E) : Type 0 where
  pub kept : AddsSome state old new
  pub given : (d : Document) → items ≡ listing d → MatchResult result (λ _. Adds state old new (printed d))
      (λ _. ((count : ℕ) × Adds state old new (take count (printed d))) × (max 64 levels < depth d))

-- Some bytes were given. Where these of a document were printed before, they lead from one place in it to another.
pub record Leads {T : Type 0} {size : ℕ} (state : T → TargetState) (old new : Text T size) (from to : List ℕ → Document → Type 0)
    : Type 0 where
  pub kept : AddsSome state old new
  pub given : (done : List ℕ) (root : Document) → from done root → (more : List ℕ) × Adds state old new more × to (done ++ more) root

-- of the bytes that a writer is known to hold: what it held is still in front
unfoldable pub IsLonger : Option (List ℕ) → Option (List ℕ) → Type 0
IsLonger old new = (sent : List ℕ) × Appends old new sent

-- the second list begins with all of the first
abbrev pub IsPrefix : List ℕ → List ℕ → Type 0
IsPrefix front whole = take (length front) whole ≡ front
