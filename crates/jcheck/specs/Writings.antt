-- How a report is written: whole, or a beginning of it.
use Rattle.std.specs.Prelude.{◌≡◌, ◌+◌, ◌++◌, ◌&&◌, ℕ, List, length, Bool, true, false, Option, is_some, take}
use Rattle.std.specs.Io.KnownBytes.{Appends, Consumes, IsAtEnd}
use Rattle.std.specs.List.{list_all}
use Rattle.jcheck.specs.Failures.{IsShortOfMemory, is_of_output}
use Rattle.jcheck.specs.Reports.{is_clean_line, line_text, lines_text, place_after}
use Rattle.jcheck.specs.declared.excerpt.Style.{Style}
use Rattle.jcheck.specs.declared.failure.Failure.{Failure}
use Rattle.jcheck.specs.declared.lines.LineReports.{LineReports}
use Rattle.simd_json_parts.specs.Pieces.{pieces}
use Rattle.simd_json_print.specs.Texts.{TargetState, Adds}
use Rattle.simd_json_print.specs.declared.text.Text.{Text}

-- Of a reader that has failed or not, and a writer that has or not, and held and holds these: a beginning of the bytes was written. One
-- of them has failed, or an allocation did.
pub record HasStopped (e : Failure) (unread failed : Bool) (held holds : Option (List ℕ)) (bytes : List ℕ) : Type 0 where
  pub output : is_of_output e ≡ failed
  pub one : unread ≡ true → failed ≡ false
  pub memory : unread ≡ false → failed ≡ false → IsShortOfMemory e
  pub count : ℕ
  pub written : Appends held holds (take count bytes)

-- a beginning of the bytes was put, and nothing else
pub record HasPart {T : Type 0} {size : ℕ} (state : T → TargetState) (old new : Text T size) (bytes : List ℕ) : Type 0 where
  pub part : List ℕ
  pub rest : List ℕ
  pub whole : part ++ rest ≡ bytes
  pub put : Adds state old new part

-- ---- what private clauses cite

-- one more line has ended, and the report on it was put
pub record TakesLine {T : Type 0} {size : ℕ} (state : T → TargetState) (old new : Text T size) (limit : ℕ) (reports next : LineReports)
    (line : List ℕ) : Type 0 where
  pub line_is : next.place.line ≡ place_after reports.place.line 1
  pub byte_is : next.place.byte ≡ place_after reports.place.byte (length line + 1)
  pub clean_is : next.all_clean ≡ (reports.all_clean && is_clean_line limit line)
  pub put : Adds state old new
      (line_text reports.place.file.now reports.style limit reports.place.line reports.place.byte line)

-- Of a reader with these bytes left before and after, that has failed or not: the reports on its lines were put, unless the target failed.
pub record HasPutLines {T : Type 0} {size : ℕ} (state : T → TargetState) (old new : Text T size) (file : List ℕ) (style : Style)
    (limit : ℕ) (before after : Option (List ℕ)) (unread clean : Bool) : Type 0 where
  pub input : List ℕ
  pub given : Consumes before after input
  pub put : Adds state old new (lines_text file style limit 1 0 (pieces input))
  pub sound : unread ≡ false
  pub all : is_some new.fault ≡ false → IsAtEnd after × (clean ≡ list_all (is_clean_line limit) (pieces input))

-- a beginning of them was put; the target has not failed before the reader
pub record HasPutSome {T : Type 0} {size : ℕ} (state : T → TargetState) (old new : Text T size) (file : List ℕ) (style : Style)
    (limit : ℕ) (before after : Option (List ℕ)) (unread : Bool) (e : Failure) : Type 0 where
  pub input : List ℕ
  pub given : Consumes before after input
  pub put : HasPart state old new (lines_text file style limit 1 0 (pieces input))
  pub output : is_of_output e ≡ false
  pub sound : unread ≡ true → is_some new.fault ≡ false
  pub memory : unread ≡ false → IsShortOfMemory e
