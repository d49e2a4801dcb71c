-- What one line more comes to.
use Rattle.std.proofs.Common.{◌≡◌, ◌∙◌, ap, ap₂, refl, sym, subst, ℕ, ◌+◌, List, ◌++◌, ◌∷◌, append-nil, length, take}
use Rattle.std.proofs.Common.{[], Bool, true, false, cond, ◌&&◌, Option, Ok, Err}
use Rattle.std.proofs.Math.Seq.{take-append-add, take-length}
use Rattle.std.proofs.lemmas.Bool.{false≢true}
use Rattle.std.specs.Io.KnownBytes.{Appends}
use Rattle.std.specs.List.{list_all}
use Rattle.std.specs.Prelude.{IsErrAnd, OnOk, Result, is_some}
use Rattle.simd_json_parts.specs.Document.{Document}
use Rattle.simd_json_parts.specs.declared.error.Error.{Error}
use Rattle.simd_json_print.specs.Texts.{Adds, HasGiven, TargetState}
use Rattle.simd_json_print.specs.declared.text.Text.{Text}
use Rattle.programs.proofs.Begins.{begins-all}
use Rattle.programs.specs.Failures.{Begins, name_fault}
use Rattle.programs.specs.Rejections.{one_more}
use Rattle.programs.specs.declared.failure.Failure.{Failure}
use Rattle.jsonl.proofs.Outcomes.{cut-outcome}
use Rattle.programs.specs.Lines.{folded, kept}
use Rattle.jsonl.specs.Records.{Numbered, Outcome, outcome_of_line}
use Rattle.jpick.proofs.Putting.{Begun}
use Rattle.jpick.specs.Picked.{Picked, begins_document, next, rejection_line, rows_of, taken_by, taken_of, with_line, with_outcome, with_rejection, with_value}
use Rattle.jpick.specs.Putting.{EndsIn, Knows, Names, Shows, Stops}
use Rattle.jpick.specs.Rows.{document_rows, has_needed, meets, needed_rows, picked_rows}
use Rattle.jpick.specs.declared.fields.Wanted.{Wanted}
use Rattle.jpick.specs.declared.lines.Picker.{Picker}

-- a line that was read
pub line-read : (w : Wanted) (file : List ℕ) (r : Picked) (line text : List ℕ) (longest limit : ℕ) (o : Outcome) → text ≡ line
    → o ≡ outcome_of_line longest limit line → longest ≡ w.longest → limit ≡ w.depth → r.is_over ≡ false
    → with_outcome w file (next r) text o ≡ with_line w file r line
line-read w file r line text longest limit o same is long deep before =
    ap (λ u. with_outcome w file (next r) u o) same
    ∙ ap (with_outcome w file (next r) line)
    (is ∙ ap (λ n. outcome_of_line n limit line) long ∙ ap (λ n. outcome_of_line w.longest n line) deep)
    ∙ ap (λ b. cond {A = Picked} b r (with_outcome w file (next r) line (outcome_of_line w.longest w.depth line))) (sym before)

-- of a line that is too long the first bytes are enough
pub cut-line : (w : Wanted) (file : List ℕ) (r : Picked) (line : List ℕ)
    → with_line w file r (kept w.longest line) ≡ with_line w file r line
cut-line w file r line =
    ap (λ s. cond {A = Picked} r.is_over r s) (cut-outcome (with_outcome w file (next r)) w.longest w.depth line (λ a b. refl))

-- ---- what was taken

-- after a line that begins a document nothing is
pub absorbed : (w : Wanted) (file : List ℕ) (r : Picked) (lines : List (List ℕ)) → r.is_over ≡ true → folded (with_line w file) r lines ≡ r
absorbed w file r [] over = refl
absorbed w file r (line ∷ lines) over =
    ap (λ b. folded (with_line w file) (cond {A = Picked} b r (with_outcome w file (next r) line (outcome_of_line w.longest w.depth line))) lines)
    over ∙ absorbed w file r lines over

pub taken-as : {A : Type 0} (picker : Picker A) (w : Wanted) (file : List ℕ) (r : Picked) → Knows picker w file r
    → taken_by picker.is_over picker.all_taken ≡ taken_of r
taken-as picker w file r knows = ap₂ taken_by knows.is_over knows.all_taken

-- ---- whether rows follow

pub picked-none : (w : Wanted) (d : Document) → list_all (meets d) w.filters.now ≡ false → picked_rows w d ≡ []
picked-none w d is = ap (λ b. cond (b && has_needed w d) (document_rows w d) []) is

pub picked-needed : (w : Wanted) (d : Document) → list_all (meets d) w.filters.now ≡ true → picked_rows w d ≡ needed_rows w d
picked-needed w d is = ap (λ b. cond (b && has_needed w d) (document_rows w d) []) is

-- ---- calls that end in a failure of the writer of names, or for want of memory

pub handed-on : (q : Result Unit Failure) (failed : Bool) (post : Failure → Type 0) (P Q : Type 0) → IsErrAnd q post
    → ((e : Failure) → post e → e ≡ name_fault failed) → Q → EndsIn failed P Q q
handed-on (Ok u) failed post P Q is says left = absurd is
handed-on (Err e) failed post P Q is says left = (says e is, left)

pub weaker : (q : Result Unit Failure) (failed : Bool) (P Q S T : Type 0) → (P → S) → (Q → T) → EndsIn failed P Q q → EndsIn failed S T q
weaker (Ok u) failed P Q S T then left h = (h.0, then h.1)
weaker (Err e) failed P Q S T then left h = (h.0, left h.1)

pub ok-of : (q : Result Unit Failure) (failed : Bool) (P Q : Type 0) {u : Unit} → q ≡ Ok u → EndsIn failed P Q q → (failed ≡ false) × P
ok-of (Ok u) failed P Q is h = h
ok-of (Err e) failed P Q is h = cc

same-err : (d e : Failure) → ◌≡◌ {A = Result Unit Failure} (Err d) (Err e) → e ≡ d
same-err d e is = cc

pub err-of : (q : Result Unit Failure) (failed : Bool) (P Q : Type 0) {e : Failure} → q ≡ Err e → EndsIn failed P Q q
    → (e ≡ name_fault failed) × Q
err-of (Ok u) failed P Q is h = cc
err-of (Err d) failed P Q {e} is h = (same-err d e is ∙ h.0, h.1)

-- where there is none, that writer has not failed
pub silent-err : (q : Result Unit Failure) (post : Failure → Type 0) (P : Type 0) → IsErrAnd q post → OnOk q P
silent-err (Ok u) post P is = absurd is
silent-err (Err e) post P is = tt

pub silent-ends : (q : Result Unit Failure) (failed : Bool) (P Q : Type 0) → EndsIn failed P Q q → OnOk q (failed ≡ false)
silent-ends (Ok u) failed P Q h = h.0
silent-ends (Err e) failed P Q h = tt

-- ---- names

pub names-all : (lost : Bool) (named names : Option (List ℕ)) (bytes : List ℕ) → lost ≡ false → Names lost named names bytes
    → Appends named names bytes
names-all true named names bytes sound h = cc
names-all false named names bytes sound h = h

pub names-begun : (lost : Bool) (named names : Option (List ℕ)) (bytes : List ℕ) → Names lost named names bytes
    → Begins named names bytes
names-begun true named names bytes h = h
names-begun false named names bytes h = begins-all named names bytes h

pub all-names : (lost : Bool) (named names : Option (List ℕ)) (bytes : List ℕ) → Appends named names bytes
    → Names lost named names bytes
all-names true named names bytes h = begins-all named names bytes h
all-names false named names bytes h = h

pub lost-names : (lost : Bool) (named names : Option (List ℕ)) (bytes : List ℕ) → lost ≡ true → Begins named names bytes
    → Names lost named names bytes
lost-names true named names bytes lost h = h
lost-names false named names bytes lost h = cc

module _ {A T : Type 0} {size : ℕ} (state : T → TargetState) (start : TargetState) (w : Wanted) (file : List ℕ) where
  -- the next text
  pub shows-next : (old : Picker A) (text : Text T size) (records : Numbered) (line : List ℕ) (named names : Option (List ℕ)) (r : Picked)
      → records ≡ record old.records { number = one_more old.records.number; text = line }
      → Shows state start old text named names w file r
      → Shows state start (record old { records = records }) text named names w file (next r)
  shows-next old text records line named names r is shown = record {
    knows = record {
      by = shown.knows.by;
      of = shown.knows.of;
      longest = ap (λ n. n.longest) is ∙ shown.knows.longest;
      depth = ap (λ n. n.depth) is ∙ shown.knows.depth;
      number = ap (λ n. n.number) is ∙ ap one_more shown.knows.number;
      all_taken = shown.knows.all_taken;
      is_over = shown.knows.is_over;
    };
    rows = shown.rows;
    rejections = shown.rejections;
  }

  -- the rows so far were written, or not
  pub shows-flushed : (picker : Picker A) (text texts : Text T size) (named names : Option (List ℕ)) (r : Picked)
      → is_some text.fault ≡ false → Shows state start picker text named names w file r → Adds state text texts []
      → Shows state start picker texts named names w file r
  shows-flushed picker text texts named names r sound shown put = record {
    knows = shown.knows;
    rows = subst (HasGiven state start texts) (append-nil r.rows) (put.given start r.rows shown.rows);
    rejections = all-names (is_some texts.fault) named names r.rejections
        (names-all (is_some text.fault) named names r.rejections sound shown.rejections);
  }

  -- a call that failed before it put or named anything
  pub stops-shown : (picker new : Picker A) (text : Text T size) (named names : Option (List ℕ)) (failed : Bool) (r : Picked)
      → new.all_taken ≡ picker.all_taken → failed ≡ false → Shows state start picker text named names w file r
      → Stops state start new text named names failed r
  stops-shown picker new text named names failed r same sound shown = record {
    all_taken = same ∙ shown.knows.all_taken;
    count = length r.rows;
    rows = subst (HasGiven state start text) (sym (take-length r.rows)) shown.rows;
    rejections = names-begun (is_some text.fault) named names r.rejections shown.rejections;
    unnamed = λ h. absurd (false≢true (sym sound ∙ h));
  }

  module _ (old new : Picker A) (text texts : Text T size) (r : Picked) (same : new ≡ record old { spare = new.spare }) where
    -- a value whose rows were put
    pub shows-value : (named names : Option (List ℕ)) (d : Document) → is_some text.fault ≡ false
        → Shows state start old text named names w file r → Adds state text texts (rows_of old.wanted.now d)
        → Shows state start new texts named names w file (with_value w r d)
    shows-value named names d sound shown put = record {
      knows = subst (λ p. Knows p w file (with_value w r d)) (sym same) (record {
        by = shown.knows.by;
        of = shown.knows.of;
        longest = shown.knows.longest;
        depth = shown.knows.depth;
        number = shown.knows.number;
        all_taken = shown.knows.all_taken;
        is_over = shown.knows.is_over;
      });
      rows = subst (λ v. HasGiven state start texts (r.rows ++ rows_of v d)) shown.knows.by (put.given start r.rows shown.rows);
      rejections = all-names (is_some texts.fault) named names r.rejections
          (names-all (is_some text.fault) named names r.rejections sound shown.rejections);
    }

    -- or a beginning of them
    pub stops-value : (named names : Option (List ℕ)) (failed : Bool) (d : Document) → failed ≡ false
        → Shows state start old text named names w file r → Begun state text texts (rows_of old.wanted.now d)
        → Stops state start new texts named names failed (with_value w r d)
    stops-value named names failed d sound shown put = record {
      all_taken = ap (λ p. p.all_taken) same ∙ shown.knows.all_taken;
      count = length r.rows + put.0;
      rows = subst (HasGiven state start texts) (ap (λ v. r.rows ++ take put.0 (rows_of v d)) shown.knows.by
          ∙ sym (take-append-add r.rows (rows_of w d) put.0)) (put.1.given start r.rows shown.rows);
      rejections = names-begun (is_some text.fault) named names r.rejections shown.rejections;
      unnamed = λ h. absurd (false≢true (sym sound ∙ h));
    }

-- ---- a rejected line

module _ {A : Type 0} (w : Wanted) (file : List ℕ) where
  pub named-as : (old : Picker A) (r : Picked) (error : Option Error) → Knows old w file r
      → rejection_line old.wanted.now old.file.now old.records.number old.records.text error
      ≡ rejection_line w file r.number old.records.text error
  named-as old r error knows =
      let text = old.records.text in
      ap (λ v. rejection_line v old.file.now old.records.number text error) knows.by
      ∙ ap (λ f. rejection_line w f old.records.number text error) knows.of
      ∙ ap (λ n. rejection_line w file n text error) knows.number

  pub knows-rejected : (old : Picker A) (r : Picked) (error : Option Error) (over : Bool)
      → over ≡ begins_document old.wanted.now old.records.number error → Knows old w file r
      → Knows (record old { all_taken = false; is_over = over }) w file (with_rejection w file r old.records.text error)
  knows-rejected old r error over is knows = record {
    by = knows.by;
    of = knows.of;
    longest = knows.longest;
    depth = knows.depth;
    number = knows.number;
    all_taken = refl;
    is_over = is ∙ ap₂ (λ v n. begins_document v n error) knows.by knows.number;
  }
