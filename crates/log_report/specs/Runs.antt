-- What a run leaves.
use Rattle.std.specs.Prelude.{◌≡◌, ◌↔◌, ◌||◌, ℕ, List, [], ◌∷◌, length, map, Bool, true, false, Option}
use Rattle.std.specs.Prelude.{OnOk, IfErr, IsErrAnd, Result, Ok, Err, MatchResult, Vec}
use Rattle.std.specs.Io.KnownBytes.{Appends, Consumes, IsAtEnd, Keeps}
use Rattle.programs.specs.Failures.{Begins, SaysClosed, is_write, name_fault, output_fault}
use Rattle.programs.specs.Ports.{Watched}
use Rattle.programs.specs.declared.failure.Failure.{Failure}
use Rattle.programs.specs.declared.failure.Failure.TheVariants.{Read, Name, Closed, Resources}
use Rattle.simd_json_stages.specs.Capacities.{default_max_depth}
use Rattle.simd_json_parts.specs.Document.{Document}
use Rattle.simd_json_parts.specs.declared.error.Error.{Error}
use Rattle.log_report.specs.Report.{Part, Report, no_report, notice, rejection_line, report_of, said, with_counted_line, with_part}
use Rattle.log_report.specs.Rows.{row_label}
use Rattle.log_report.specs.Table.{Count, counted, rejected, report_text}
use Rattle.log_report.specs.declared.lines.Lines.{Lines}
use Rattle.log_report.specs.declared.rows.Wanted.{Wanted}
use Rattle.log_report.specs.declared.runs.Input.{Input}

-- Of an input before and after a run, of whose reader this is known: it has this file, and these bytes were read, to the end if all were.
pub record IsInputRead {R : Type 0} (remaining : R → Option (List ℕ)) (all : Bool) (i j : Input R) (part : Part) : Type 0 where
  pub file : part.0 ≡ i.file.now
  pub bytes : Consumes (remaining i.reader.inner) (remaining j.reader.inner) part.1
  pub end : all ≡ true → IsAtEnd (remaining j.reader.inner)

-- these parts were read of the first inputs, and the others were not touched
abbrev pub AreRead : {R : Type 0} → (R → Option (List ℕ)) → Bool → List (Input R) → List (Input R) → List Part → Type 0
AreRead remaining all is js [] = is ≡ js
AreRead remaining all (i ∷ is) (j ∷ js) (part ∷ parts) = IsInputRead remaining all i j part × AreRead remaining all is js parts
AreRead remaining all is js parts = ⊥

-- each of the inputs was read to its end
pub record AreDone {R : Type 0} (remaining : R → Option (List ℕ)) (inputs reads : List (Input R)) (parts : List Part) : Type 0 where
  pub read : AreRead remaining true inputs reads parts
  pub each : length parts ≡ length inputs

abbrev pub has_failed : {R : Type 0} → List (Input R) → Bool
has_failed [] = false
has_failed (i ∷ is) = i.reader.failed || has_failed is

-- Of inputs, a writer of the report and one that names rejected lines, which held and hold these: each input was read to its end,
-- and the report of their lines was written, and their rejected lines were named, with a notice of lines that have no count of their own.
pub record HasReported {R : Type 0} (remaining : R → Option (List ℕ)) (w : Wanted) (inputs reads : List (Input R))
    (held holds named names : Option (List ℕ)) (result : Result Bool Failure) : Type 0 where
  pub parts : List Part
  pub read : AreDone remaining inputs reads parts
  pub report : Appends held holds (report_text w.is_tsv (report_of w parts).counts)
  pub rejections : Appends named names (said w (report_of w parts))
  pub returned : result ≡ Ok (report_of w parts).all_taken

-- Of such a run that ended in this error, and whether the report's writer failed: of what was read, a beginning of the report was
-- written, and a beginning of its rejected lines named. No byte of the report was, unless its writer failed; then all was read.
-- That its reader has closed it is such a failure, and says whether no line was rejected.
pub record HasBegunReport {R : Type 0} (remaining : R → Option (List ℕ)) (w : Wanted) (inputs reads : List (Input R))
    (held holds named names : Option (List ℕ)) (failed : Bool) (failure : Failure) : Type 0 where
  pub parts : List Part
  pub read : AreRead remaining false inputs reads parts
  pub report : Begins held holds (report_text w.is_tsv (report_of w parts).counts)
  pub rejections : Begins named names (said w (report_of w parts))
  pub unwritten : failed ≡ false → Keeps held holds
  pub end : failed ≡ true → AreDone remaining inputs reads parts
  pub closed : (taken : Bool) → failure ≡ Closed taken → (failed ≡ true) × (taken ≡ (report_of w parts).all_taken)

-- Of a run over ports, of what is known of their bytes: a report is that of what was read, and reading failed exactly where one of
-- the readers did, writing exactly where its writer did, naming rejected lines exactly where theirs did.
pub record Reports {R W E : Type 0} (remaining : R → Option (List ℕ)) (written : W → Option (List ℕ)) (naming : E → Option (List ℕ))
    (w : Wanted) (inputs reads : List (Input R)) (report reports : Watched W) (rejections rejects : Watched E)
    (result : Result Bool Failure) : Type 0 where
  pub run : OnOk result (HasReported remaining w inputs reads (written report.inner) (written reports.inner)
      (naming rejections.inner) (naming rejects.inner) result)
  pub begun : IfErr result (HasBegunReport remaining w inputs reads (written report.inner) (written reports.inner)
      (naming rejections.inner) (naming rejects.inner) reports.failed)
  pub read : (result ≡ Err Read) ↔ (has_failed reads ≡ true)
  pub write : IsErrAnd result (λ failure. is_write failure ≡ true) ↔ (reports.failed ≡ true)
  pub closed : IfErr result (SaysClosed reports.closed)
  pub name : (result ≡ Err Name) ↔ (rejects.failed ≡ true)

-- ---- what private clauses cite

abbrev pub as_count : {A : Type 0} → Vec ℕ A × ℕ → Count
as_count entry = (entry.0.items, entry.1)

abbrev pub counts_of : {A : Type 0} → Lines A → List Count
counts_of lines = map as_count lines.counts.entries

-- so many lines more count under the text
pub record CountsMore {A : Type 0} (old new : Lines A) (text : List ℕ) (more : ℕ) : Type 0 where
  pub counts : counts_of new ≡ counted old.wanted.now.is_tsv old.wanted.now.values more text (counts_of old)
  pub same : new ≡ record old { counts = new.counts }

-- one more, by the row of a document
abbrev pub AddsValue : {A : Type 0} → Lines A → Lines A → Document → Type 0
AddsValue old new d = CountsMore old new (row_label old.wanted.now d) 1

-- what a call on the report's writer ends in, if its failures come from there or from want of memory
abbrev pub report_fault : Bool → Bool → Bool → Failure
report_fault taken closed true = output_fault closed taken
report_fault taken closed false = Resources

-- of such a call: P, and the writer has not failed; or a failure, and Q
abbrev pub EndsReport : {T : Type 0} → Bool → Watched T → Watched T → Type 0 → Type 0 → Result Unit Failure → Type 0
EndsReport taken old new P Q result = old.failed ≡ false
    → MatchResult result (λ _. (new.failed ≡ false) × P) (λ failure. (failure ≡ report_fault taken new.closed new.failed) × Q)

-- of a writer of what is known: the report is written
abbrev pub Prints : {A W : Type 0} → (W → Option (List ℕ)) → Lines A → Watched W → Watched W → Type 0
Prints written lines out outs =
    Appends (written out.inner) (written outs.inner) (report_text lines.wanted.now.is_tsv (counts_of lines))

-- of a call that fails: a beginning of it is, and nothing unless the writer failed
pub record BeginsReport {A W : Type 0} (written : W → Option (List ℕ)) (lines : Lines A) (out outs : Watched W) : Type 0 where
  pub begun : Begins (written out.inner) (written outs.inner) (report_text lines.wanted.now.is_tsv (counts_of lines))
  pub unwritten : outs.failed ≡ false → Keeps (written out.inner) (written outs.inner)

-- of a writer of what is known: the notice is written
abbrev pub Notes : {A E : Type 0} → (E → Option (List ℕ)) → Lines A → Watched E → Watched E → Type 0
Notes naming lines rejections rejects =
    Appends (naming rejections.inner) (naming rejects.inner) (notice lines.wanted.now (counts_of lines))

-- of a call that fails: a beginning of it is
abbrev pub BeginsNotice : {A E : Type 0} → (E → Option (List ℕ)) → Lines A → Watched E → Watched E → Type 0
BeginsNotice naming lines rejections rejects =
    Begins (naming rejections.inner) (naming rejects.inner) (notice lines.wanted.now (counts_of lines))

-- of a writer of what is known: the last line counts as rejected, and is named
pub record CountsRejection {A E : Type 0} (naming : E → Option (List ℕ)) (old new : Lines A) (rejections rejects : Watched E)
    (error : Option Error) : Type 0 where
  pub counts : counts_of new ≡ counted old.wanted.now.is_tsv old.wanted.now.values 1 (rejected old.wanted.now.is_tsv) (counts_of old)
  pub same : new ≡ record old { all_taken = false; counts = new.counts }
  pub named : Appends (naming rejections.inner) (naming rejects.inner)
      (rejection_line old.wanted.now old.file.now old.records.number old.records.text error)

-- Since a writer held these bytes: the counts are those of this report, and the writer holds the lines that name rejected ones, too.
pub record ShowsReport {A : Type 0} (lines : Lines A) (held holds : Option (List ℕ)) (w : Wanted) (file : List ℕ)
    (r : Report) : Type 0 where
  pub by : lines.wanted.now ≡ w
  pub of : lines.file.now ≡ file
  pub longest : lines.records.longest ≡ w.longest
  pub depth : lines.records.depth ≡ default_max_depth
  pub number : lines.records.number ≡ r.number
  pub all_taken : lines.all_taken ≡ r.all_taken
  pub counts : counts_of lines ≡ r.counts
  pub rejections : Appends held holds r.rejections

-- before any line
abbrev pub HasNoLine : {A : Type 0} → Wanted → Lines A → Type 0
HasNoLine w lines = (held : Option (List ℕ)) → ShowsReport lines held held w [] (no_report w)

-- any report that was shown has become that with this line
abbrev pub CountsLine : {A E : Type 0} → (E → Option (List ℕ)) → Lines A → Lines A → Watched E → Watched E → List ℕ → Type 0
CountsLine naming old new rejections rejects line =
    (held : Option (List ℕ)) (w : Wanted) (file : List ℕ) (r : Report)
    → ShowsReport old held (naming rejections.inner) w file r
    → ShowsReport new held (naming rejects.inner) w file (with_counted_line w file r line)

-- of a call that fails: of any report that was shown, with this line, a beginning of the rejections was written
abbrev pub BeginsCountedLine : {A E : Type 0} → (E → Option (List ℕ)) → Lines A → Watched E → Watched E → List ℕ → Type 0
BeginsCountedLine naming old rejections rejects line =
    (held : Option (List ℕ)) (w : Wanted) (file : List ℕ) (r : Report)
    → ShowsReport old held (naming rejections.inner) w file r
    → Begins held (naming rejects.inner) (with_counted_line w file r line).rejections

-- what a call on a reader and a writer that had not failed ends in, by whether one of them has
abbrev pub input_fault : Bool → Bool → Failure
input_fault true failed = Read
input_fault false failed = name_fault failed

-- of such a call: P, and neither has failed; or a failure, at most one of them has, and Q
abbrev pub EndsInput : Bool → Bool → Type 0 → Type 0 → Result Unit Failure → Type 0
EndsInput reads rejects P Q result = MatchResult result (λ _. (reads ≡ false) × (rejects ≡ false) × P)
    (λ failure. (failure ≡ input_fault reads rejects) × (reads ≡ true → rejects ≡ false) × Q)

-- the bytes of a reader were read to their end, and any report that was shown has become that with their lines
pub record TakesInput {A R E : Type 0} (remaining : R → Option (List ℕ)) (naming : E → Option (List ℕ)) (old new : Lines A)
    (reader reads : Watched R) (rejections rejects : Watched E) (file : List ℕ) : Type 0 where
  pub input : List ℕ
  pub read : Consumes (remaining reader.inner) (remaining reads.inner) input
  pub end : IsAtEnd (remaining reads.inner)
  pub shown : (held : Option (List ℕ)) (w : Wanted) (last : List ℕ) (r : Report)
      → ShowsReport old held (naming rejections.inner) w last r
      → ShowsReport new held (naming rejects.inner) w file (with_part w r (file, input))

-- of a call that fails: of any report that was shown, with the lines of what was read, a beginning of the rejections was written
pub record BeginsInput {A R E : Type 0} (remaining : R → Option (List ℕ)) (naming : E → Option (List ℕ)) (old : Lines A)
    (reader reads : Watched R) (rejections rejects : Watched E) (file : List ℕ) : Type 0 where
  pub input : List ℕ
  pub read : Consumes (remaining reader.inner) (remaining reads.inner) input
  pub begun : (held : Option (List ℕ)) (w : Wanted) (last : List ℕ) (r : Report)
      → ShowsReport old held (naming rejections.inner) w last r
      → Begins held (naming rejects.inner) (with_part w r (file, input)).rejections
