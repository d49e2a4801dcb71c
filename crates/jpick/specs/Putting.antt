-- What private clauses cite: what is put into the text of rows, and what is known of the lines so far.
use Rattle.std.specs.Prelude.{◌≡◌, ◌⊎◌, ℕ, List, take, Bool, true, false, ◌&&◌, Option, is_some}
use Rattle.std.specs.Prelude.{Result, MatchResult}
use Rattle.std.specs.Io.KnownBytes.{Appends, Consumes, IsAtEnd}
use Rattle.programs.specs.Failures.{Begins, name_fault}
use Rattle.programs.specs.Ports.{Watched}
use Rattle.programs.specs.declared.failure.Failure.{Failure}
use Rattle.programs.specs.declared.failure.Failure.TheVariants.{Read}
use Rattle.jsonl.specs.Records.{Outcome}
use Rattle.simd_json_print.specs.Texts.{Adds, HasGiven, TargetState}
use Rattle.simd_json_print.specs.declared.text.Text.{Text}
use Rattle.jpick.specs.Picked.{Picked, no_line, picked_document, taken_of, with_line, with_outcome}
use Rattle.jpick.specs.Runs.{IsPart}
use Rattle.jpick.specs.declared.fields.Wanted.{Wanted}
use Rattle.jpick.specs.declared.lines.Picker.{Picker}
use Rattle.jpick.specs.declared.lines.Taken.{Taken}

-- of a call: these bytes were given, or if it failed a beginning of them
abbrev pub Puts : {T E : Type 0} {size : ℕ} → (T → TargetState) → Text T size → Text T size → Result Unit E → List ℕ → Type 0
Puts state old new result bytes =
    MatchResult result (λ _. Adds state old new bytes) (λ _. (count : ℕ) × Adds state old new (take count bytes))

-- a picker has picked this of the lines so far
pub record Knows {A : Type 0} (picker : Picker A) (w : Wanted) (file : List ℕ) (r : Picked) : Type 0 where
  pub by : picker.wanted.now ≡ w
  pub of : picker.file.now ≡ file
  pub longest : picker.records.longest ≡ w.longest
  pub depth : picker.records.depth ≡ w.depth
  pub number : picker.records.number ≡ r.number
  pub all_taken : picker.all_taken ≡ r.all_taken
  pub is_over : picker.is_over ≡ r.is_over

-- the bytes were written, or a beginning where the target of the rows has failed
abbrev pub Names : Bool → Option (List ℕ) → Option (List ℕ) → List ℕ → Type 0
Names false named names bytes = Appends named names bytes
Names true named names bytes = Begins named names bytes

-- Since the target was in this state, and a writer of names held these bytes: this was picked, its rows were given, and the writer
-- holds the lines that name rejected ones, too.
pub record Shows {A T : Type 0} {size : ℕ} (state : T → TargetState) (start : TargetState) (picker : Picker A) (text : Text T size)
    (named names : Option (List ℕ)) (w : Wanted) (file : List ℕ) (r : Picked) : Type 0 where
  pub knows : Knows picker w file r
  pub rows : HasGiven state start text r.rows
  pub rejections : Names (is_some text.fault) named names r.rejections

-- of a call that failed, by whether the writer of names has: of what was picked, a beginning of the rows was given, and one of the
-- rejections written; where a rejected line could not be named, the rows before it were written
pub record Stops {A T : Type 0} {size : ℕ} (state : T → TargetState) (start : TargetState) (picker : Picker A) (text : Text T size)
    (named names : Option (List ℕ)) (failed : Bool) (r : Picked) : Type 0 where
  pub all_taken : picker.all_taken ≡ r.all_taken
  pub count : ℕ
  pub rows : HasGiven state start text (take count r.rows)
  pub rejections : Begins named names r.rejections
  pub unnamed : failed ≡ true
      → (is_some text.fault ≡ false) × (r.all_taken ≡ false) × Appends start.held (state text.target.now).held r.rows

-- of a call on a writer of names that had not failed: P; or a failure, and Q
abbrev pub EndsIn : Bool → Type 0 → Type 0 → Result Unit Failure → Type 0
EndsIn failed P Q result = MatchResult result (λ _. (failed ≡ false) × P) (λ e. (e ≡ name_fault failed) × Q)

-- what was picked has become that with this line
abbrev pub TakesLine : {A T E : Type 0} {size : ℕ} → (T → TargetState) → (E → Option (List ℕ)) → Picker A → Picker A
    → Text T size → Text T size → Watched E → Watched E → List ℕ → Result Unit Failure → Type 0
TakesLine state naming old new text texts rejections rejects line result =
    (start : TargetState) (named : Option (List ℕ)) (w : Wanted) (file : List ℕ) (r : Picked)
    → Shows state start old text named (naming rejections.inner) w file r
    → EndsIn rejects.failed (Shows state start new texts named (naming rejects.inner) w file (with_line w file r line))
    ((s : Picked) × ((s ≡ r) ⊎ (s ≡ with_line w file r line)) × Stops state start new texts named (naming rejects.inner) rejects.failed s)
    result

-- with a document, before any line
abbrev pub TakesDocument : {A T E : Type 0} {size : ℕ} → (T → TargetState) → (E → Option (List ℕ)) → Picker A → Picker A
    → Text T size → Text T size → Watched E → Watched E → List ℕ → Result Unit Failure → Type 0
TakesDocument state naming old new text texts rejections rejects input result =
    (start : TargetState) (named : Option (List ℕ)) (w : Wanted) (file : List ℕ)
    → Shows state start old text named (naming rejections.inner) w file no_line
    → EndsIn rejects.failed (Shows state start new texts named (naming rejects.inner) w file (picked_document w file input))
    ((s : Picked) × ((s ≡ no_line) ⊎ (s ≡ picked_document w file input))
    × Stops state start new texts named (naming rejects.inner) rejects.failed s) result

-- with this outcome of the last text
abbrev pub TakesRecord : {A T E : Type 0} {size : ℕ} → (T → TargetState) → (E → Option (List ℕ)) → Picker A → Picker A
    → Text T size → Text T size → Watched E → Watched E → Outcome → Result Unit Failure → Type 0
TakesRecord state naming old new text texts rejections rejects outcome result =
    (start : TargetState) (named : Option (List ℕ)) (w : Wanted) (file : List ℕ) (r : Picked)
    → Shows state start old text named (naming rejections.inner) w file r
    → EndsIn rejects.failed
    (Shows state start new texts named (naming rejects.inner) w file (with_outcome w file r old.records.text outcome))
    (Stops state start new texts named (naming rejects.inner) rejects.failed (with_outcome w file r old.records.text outcome)) result

-- ---- all of an input

-- of what was read: this was picked of the first lines
pub record HasTaken {A T : Type 0} {size : ℕ} (state : T → TargetState) (start : TargetState) (picker : Picker A) (text : Text T size)
    (first left named names : Option (List ℕ)) (failed : Bool) (w : Wanted) (file : List ℕ) : Type 0 where
  pub input : List ℕ
  pub read : Consumes first left input
  pub picked : Picked
  pub part : IsPart w file input picked
  pub stops : Stops state start picker text named names failed picked

-- it was read to the end, if that is not over before, and all was picked
pub record HasAll {T : Type 0} {size : ℕ} (state : T → TargetState) (start : TargetState) (text : Text T size)
    (left named names : Option (List ℕ)) (all r : Picked) : Type 0 where
  pub whole : r ≡ all
  pub end : r.is_over ≡ false → IsAtEnd left
  pub rows : HasGiven state start text r.rows
  pub rejections : Appends named names r.rejections

-- of a call on a reader and a writer of names that had not failed
abbrev pub port_fault : Bool → Bool → Failure
port_fault true rejecting = Read
port_fault false rejecting = name_fault rejecting

abbrev pub EndsAll : {A T : Type 0} {size : ℕ} → (T → TargetState) → TargetState → Picker A → Text T size → Option (List ℕ)
    → Option (List ℕ) → Option (List ℕ) → Option (List ℕ) → Bool → Bool → Wanted → List ℕ → (List ℕ → Picked) → Result Taken Failure → Type 0
EndsAll state start picker text first left named names reading rejecting w file picked result =
    (taken : HasTaken state start picker text first left named names rejecting w file)
    × MatchResult result (λ all. (reading ≡ false) × (rejecting ≡ false) × (all ≡ taken_of taken.picked)
    × (is_some text.fault ≡ false → HasAll state start text left named names (picked taken.input) taken.picked))
    (λ e. (e ≡ port_fault reading rejecting) × ((reading && rejecting) ≡ false) × (reading ≡ true → is_some text.fault ≡ false))

abbrev pub TakesAll : {A R T E : Type 0} {size : ℕ} → (R → Option (List ℕ)) → (T → TargetState) → (E → Option (List ℕ))
    → (Wanted → List ℕ → List ℕ → Picked) → Picker A → Picker A → Watched R → Watched R → Text T size → Text T size → Watched E → Watched E
    → Result Taken Failure → Type 0
TakesAll remaining state naming picked old new reader reads text texts rejections rejects result =
    (start : TargetState) (named : Option (List ℕ)) (w : Wanted) (file : List ℕ)
    → Shows state start old text named (naming rejections.inner) w file no_line
    → EndsAll state start new texts (remaining reader.inner) (remaining reads.inner) named (naming rejects.inner) reads.failed rejects.failed
    w file (picked w file) result
