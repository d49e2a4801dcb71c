-- What was picked of the lines of an input so far.
use Rattle.std.proofs.Common.{◌≡◌, ◌∙◌, ap, refl, sym, subst, inl, inr, ℕ, List, [], ◌∷◌, ◌++◌, append_assoc, append-nil}
use Rattle.std.proofs.Common.{Bool, true, false, Option, Ok, Err}
use Rattle.std.proofs.lemmas.Bool.{false≢true}
use Rattle.std.specs.Io.KnownBytes.{IsAtEnd}
use Rattle.std.specs.Prelude.{◌⊎◌, IsErrAnd, Result, ◌&&◌, is_some}
use Rattle.programs.specs.Failures.{read_fault}
use Rattle.programs.specs.declared.failure.Failure.{Failure}
use Rattle.programs.specs.declared.failure.Failure.TheVariants.{Resources}
use Rattle.simd_json_print.specs.Texts.{TargetState}
use Rattle.simd_json_print.specs.declared.text.Text.{Text}
use Rattle.simd_json_parts.specs.Pieces.{pieces}
use Rattle.programs.specs.Lines.{Cut, Moves, folded, kept}
use Rattle.programs.specs.declared.lines.Event.TheVariants.{Line, Block, End}
use Rattle.programs.proofs.Folds.{folded-append, folded-last}
use Rattle.programs.proofs.Reading
use Rattle.programs.proofs.Reading.{HasFirst, at-block, at-end, at-line, first-more, first-now}
use Rattle.jpick.specs.Picked.{Picked, no_line, picked_lines, taken_of, with_line}
use Rattle.jpick.specs.Putting.{EndsAll, HasAll, HasTaken, Shows, Stops, port_fault}
use Rattle.jpick.specs.declared.fields.Wanted.{Wanted}
use Rattle.jpick.specs.declared.lines.Picker.{Picker}
use Rattle.jpick.specs.declared.lines.Taken.{Taken}
use Rattle.jpick.proofs.Shown.{absorbed, cut-line, names-all, stops-shown}

abbrev pub picked : Wanted → List ℕ → List (List ℕ) → Picked
picked w file done = folded (with_line w file) no_line done

-- with a line of which the first bytes are kept
with-last : (w : Wanted) (file : List ℕ) (done : List (List ℕ)) (line last : List ℕ) → line ≡ kept w.longest last
    → with_line w file (picked w file done) line ≡ picked w file (done ++ last ∷ [])
with-last w file done line last is =
    ap (with_line w file (picked w file done)) is ∙ cut-line w file (picked w file done) last
    ∙ sym (folded-last (with_line w file) no_line done last)

pub read-as-port : (reading : Bool) → read_fault reading ≡ port_fault reading false
read-as-port true = refl
read-as-port false = refl

pub and-false : (b : Bool) → (b && false) ≡ false
and-false true = refl
and-false false = refl

-- one line fewer
first-fewer : {first left : Option (List ℕ)} (done : List (List ℕ)) (last : List ℕ) → HasFirst first left (done ++ last ∷ [])
    → HasFirst first left done
first-fewer done last h =
    record { input = h.input; read = h.read; rest = last ∷ h.rest; all = h.all ∙ append_assoc done (last ∷ []) h.rest }

-- a line, or the last one, was read
pub record HasLine (w : Wanted) (line : List ℕ) (first left : Option (List ℕ)) (done : List (List ℕ)) : Type 0 where
  pub last : List ℕ
  pub keeps : line ≡ kept w.longest last
  pub more : HasFirst first left (done ++ last ∷ [])

module _ {A T : Type 0} {size : ℕ} (state : T → TargetState) (start : TargetState) (w : Wanted) (file : List ℕ) where
  -- between two steps
  pub record IsAt (picker : Picker A) (text : Text T size) (c : Cut) (line : List ℕ) (first left named names : Option (List ℕ)) : Type 0 where
    pub done : List (List ℕ)
    pub read : Reading.IsAt w.longest c line first left done
    pub shown : Shows state start picker text named names w file (picked w file done)

  module _ (picker : Picker A) (text : Text T size) {c d : Cut} {line lines : List ℕ} {first left after named names : Option (List ℕ)} where
    pub line-read : (at : IsAt picker text c line first left named names) → Moves c d line lines left after Line
        → HasLine w lines first after at.done
    line-read at moves =
        let next = at-line at.read moves in
        record { last = next.0; keeps = next.1; more = first-now (next.2 []) }

    pub line-taken : (new : Picker A) (texts : Text T size) (any : List ℕ) {now : Option (List ℕ)}
        → (at : IsAt picker text c line first left named names) → Moves c d line lines left after Line
        → Shows state start new texts named now w file (with_line w file (picked w file at.done) lines)
        → IsAt new texts d any first after named now
    line-taken new texts any {now} at moves shown =
        let next = at-line at.read moves in
        record {
          done = at.done ++ next.0 ∷ [];
          read = next.2 any;
          shown = subst (Shows state start new texts named now w file) (with-last w file at.done lines next.0 next.1) shown;
        }

    pub block-read : (texts : Text T size) → (at : IsAt picker text c line first left named names)
        → Moves c d line lines left after Block → Shows state start picker texts named names w file (picked w file at.done)
        → IsAt picker texts d lines first after named names
    block-read texts at moves shown = record { done = at.done; read = (at-block at.read moves).0; shown = shown }

  pub has-taken : (lined : w.is_document ≡ false) (picker : Picker A) (text : Text T size) {first left : Option (List ℕ)}
      (named names : Option (List ℕ)) (failed : Bool) (done : List (List ℕ)) (s : Picked) → HasFirst first left done
      → s ≡ picked w file done → Stops state start picker text named names failed s
      → HasTaken state start picker text first left named names failed w file
  has-taken lined picker text named names failed done s h is stops = record {
    input = h.input;
    read = h.read;
    picked = s;
    part = inr (inr (lined, done, h.rest, h.all, is));
    stops = stops;
  }

  -- a line was taken, but for its name or for want of memory
  pub line-stopped : (lined : w.is_document ≡ false) (picker : Picker A) (text : Text T size) {first left : Option (List ℕ)}
      (named names : Option (List ℕ)) (failed : Bool) (done : List (List ℕ)) (line : List ℕ) → HasLine w line first left done
      → ((s : Picked) × ((s ≡ picked w file done) ⊎ (s ≡ with_line w file (picked w file done) line))
      × Stops state start picker text named names failed s)
      → HasTaken state start picker text first left named names failed w file
  line-stopped lined picker text named names failed done line h (s, inl is, stops) =
      has-taken lined picker text named names failed done s (first-fewer done h.last h.more) is stops
  line-stopped lined picker text named names failed done line h (s, inr is, stops) =
      has-taken lined picker text named names failed (done ++ h.last ∷ []) s h.more (is ∙ with-last w file done line h.last h.keeps) stops

  pub end-read : (picker : Picker A) (text : Text T size) {c : Cut} {line : List ℕ} {first left named names : Option (List ℕ)} (d : Cut)
      {lines : List ℕ} {after : Option (List ℕ)} → (at : IsAt picker text c line first left named names)
      → Moves c d line lines left after End
      → (h : HasLine w lines first after at.done) × (pieces h.more.input ≡ at.done ++ h.last ∷ []) × IsAtEnd after
  end-read picker text d at moves =
      let end = at-end d at.read moves in (
        record {
          last = end.last;
          keeps = end.keeps;
          more = record { input = end.input; read = end.read; rest = []; all = end.all ∙ sym (append-nil _) };
        },
        end.all,
        end.end,
      )

  -- all was picked
  pub end-taken : (lined : w.is_document ≡ false) (new : Picker A) (text : Text T size) {first left : Option (List ℕ)}
      (named names : Option (List ℕ)) (done : List (List ℕ)) (line : List ℕ) (h : HasLine w line first left done)
      → pieces h.more.input ≡ done ++ h.last ∷ [] → IsAtEnd left
      → Shows state start new text named names w file (with_line w file (picked w file done) line)
      → EndsAll state start new text first left named names false false w file (picked_lines w file)
      (Ok (taken_of (with_line w file (picked w file done) line)))
  unfolding has-taken pieces
  end-taken lined new text named names done line h all end shown =
      let is = with-last w file done line h.last h.keeps in
      let s = with_line w file (picked w file done) line in (
        has-taken lined new text named names false (done ++ h.last ∷ []) s h.more is
            (stops-shown state start w file new new text named names false s refl refl shown),
        (
          refl,
          refl,
          refl,
          λ sound. record {
            whole = is ∙ ap (picked w file) (sym all);
            end = λ before. end;
            rows = shown.rows;
            rejections = names-all (is_some text.fault) named names s.rejections sound shown.rejections;
          },
        ),
      )

  -- nothing more is to be taken, or the target of the rows has failed
  pub over-taken : (lined : w.is_document ≡ false) (picker : Picker A) (text : Text T size) {first left : Option (List ℕ)}
      (named names : Option (List ℕ)) (done : List (List ℕ)) → HasFirst first left done
      → (is_some text.fault ≡ false → (picked w file done).is_over ≡ true)
      → Shows state start picker text named names w file (picked w file done)
      → EndsAll state start picker text first left named names false false w file (picked_lines w file) (Ok (taken_of (picked w file done)))
  unfolding has-taken pieces
  over-taken lined picker text named names done h over shown =
      let s = picked w file done in (
        has-taken lined picker text named names false done s h refl
            (stops-shown state start w file picker picker text named names false s refl refl shown),
        (
          refl,
          refl,
          refl,
          λ sound. record {
            whole = sym (absorbed w file s h.rest (over sound)) ∙ sym (folded-append (with_line w file) no_line done h.rest)
                ∙ ap (picked w file) (sym h.all);
            end = λ before. absurd (false≢true (sym before ∙ over sound));
            rows = shown.rows;
            rejections = names-all (is_some text.fault) named names s.rejections sound shown.rejections;
          },
        ),
      )

-- an error that is handed on
pub ends-err : {A T : Type 0} {size : ℕ} (state : T → TargetState) (start : TargetState) (picker : Picker A) (text : Text T size)
    (first left named names : Option (List ℕ)) (reading rejecting : Bool) (w : Wanted) (file : List ℕ) (all : List ℕ → Picked)
    (q : Result Taken Failure) (e : Failure) → IsErrAnd q (λ x. x ≡ e)
    → HasTaken state start picker text first left named names rejecting w file → e ≡ port_fault reading rejecting
    → (reading && rejecting) ≡ false → (reading ≡ true → is_some text.fault ≡ false)
    → EndsAll state start picker text first left named names reading rejecting w file all q
ends-err state start picker text first left named names reading rejecting w file all (Ok b) e is taken fault one sound = absurd is
ends-err state start picker text first left named names reading rejecting w file all (Err d) e is taken fault one sound =
    (taken, (is ∙ fault, one, sound))

-- what was returned is what was taken
pub ends-as : {A T : Type 0} {size : ℕ} (state : T → TargetState) (start : TargetState) (picker : Picker A) (text : Text T size)
    (first left named names : Option (List ℕ)) (reading rejecting : Bool) (w : Wanted) (file : List ℕ) (all : List ℕ → Picked) (t u : Taken)
    → reading ≡ false → rejecting ≡ false → u ≡ t → EndsAll state start picker text first left named names false false w file all (Ok t)
    → EndsAll state start picker text first left named names reading rejecting w file all (Ok u)
ends-as state start picker text first left named names true rejecting w file all t u none silent is ends = cc
ends-as state start picker text first left named names false true w file all t u none silent is ends = cc
ends-as state start picker text first left named names false false w file all t u none silent is ends =
    (ends.0, (refl, refl, is ∙ ends.1.2, ends.1.3))

pub no-fault : (reading rejecting : Bool) → reading ≡ false → rejecting ≡ false → Resources ≡ port_fault reading rejecting
no-fault true rejecting none silent = cc
no-fault false true none silent = cc
no-fault false false none silent = refl
