-- What a writer holds after a text of it has ended.
use Rattle.std.proofs.Common.{◌≡◌, ◌∙◌, ap, refl, sym, subst, Bool, true, false, Option, Some, ℕ, List, [], ◌++◌, take}
use Rattle.std.proofs.Common.{length, append-nil, append_assoc}
use Rattle.std.specs.Io.KnownBytes.{Appends, Consumes}
use Rattle.std.specs.List.{list_all}
use Rattle.std.specs.Prelude.{Result, Ok, Err, IfErr, IfOk, OnOk, OnErr, is_err, is_ok, is_some}
use Rattle.std.proofs.Math.Seq.{take-append_seam}
use Rattle.std.proofs.lemmas.Bool.{false≢true}
use Rattle.jcheck.specs.Failures.{IsShortOfMemory, is_of_output}
use Rattle.jcheck.specs.declared.failure.Failure.{Failure}
use Rattle.jcheck.specs.Reports.{is_clean_line, lines_text}
use Rattle.jcheck.specs.Writings.{HasPart, HasPutLines, HasPutSome, HasStopped}
use Rattle.jcheck.specs.declared.excerpt.Style.{Style}
use Rattle.programs.specs.Ports.{HasRead}
use Rattle.simd_json_parts.specs.Pieces.{pieces}
use Rattle.simd_json_print.specs.Texts.{TargetState, HasGiven, Adds, failed_or}
use Rattle.simd_json_print.specs.declared.text.Text.{Text}
use Rattle.simd_json_print.proofs.Texts.{Ends, ended-sound, ended-failed, sound-text, take-front}

-- a port, by the bytes that its writer holds and whether it has failed
abbrev pub port : Option (List ℕ) → Bool → TargetState
port held failed = record { held = held; failed = Some failed }

some-is : {x y : Bool} → Some x ≡ Some y → x ≡ y
some-is is = cc

is_no_ok : {A E : Type 0} (r : Result A E) → is_err r ≡ true → is_ok r ≡ false
is_no_ok (Ok x) is = cc
is_no_ok (Err e) is = refl

module _ {T E : Type 0} {size : ℕ} {state : T → TargetState} (r : Result Unit E) {held : Option (List ℕ)} {old : Bool}
    (holds : Option (List ℕ)) (new : Bool) {a b : Text T size} where
  pub all-written : (whole : List ℕ) → is_ok r ≡ true → old ≡ false → HasGiven state (port held old) a [] → Adds state a b whole
      → Ends state r b (port holds new) → (new ≡ false) × Appends held holds whole
  all-written whole ok sound given put ends =
      ended-sound r held holds old new whole (ends (port held old) whole (put.given (port held old) [] given)) sound ok

  -- a beginning was put, and the text ended well
  pub part-written : (unread : Bool) (whole : List ℕ) (e : Failure) → is_of_output e ≡ false → (unread ≡ false → IsShortOfMemory e)
      → is_ok r ≡ true → old ≡ false → HasGiven state (port held old) a [] → HasPart state a b whole → Ends state r b (port holds new)
      → HasStopped e unread new held holds whole
  part-written unread whole e is memory ok sound given put ends =
      let ended = all-written put.part ok sound given put.put ends in
      let front = sym (ap (take (length put.part)) (sym put.whole) ∙ take-append_seam put.part put.rest) in
      record {
        output = is ∙ sym ended.0;
        one = λ h. ended.0;
        memory = λ h _. memory h;
        count = length put.part;
        written = subst (Appends held holds) front ended.1;
      }

  -- the text ended with the writer's error
  pub begun-written : (unread : Bool) (part rest whole : List ℕ) (e : Failure) → unread ≡ false → is_of_output e ≡ true → is_err r ≡ true
      → part ++ rest ≡ whole → HasGiven state (port held old) a [] → Adds state a b part
      → Ends state r b (port holds new) → HasStopped e unread new held holds whole
  begun-written unread part rest whole e read is failed parts given put ends =
      let begun =
      ended-failed r held holds old new part (ends (port held old) part (put.given (port held old) [] given)) (is_no_ok r failed) in
      let count = take-front begun.1.0 part rest in
      record {
        output = is ∙ sym begun.0;
        one = λ h. absurd (false≢true (sym read ∙ h));
        memory = λ _ h. absurd (false≢true (sym h ∙ begun.0));
        count = count.0;
        written = subst (Appends held holds) (count.1 ∙ ap (take count.0) parts) begun.1.1;
      }

  pub failed-written : {A F : Type 0} (m : Result A F) (whole : List ℕ) (e : Failure) → is_of_output e ≡ true → is_err r ≡ true
      → HasGiven state (port held old) a [] → OnOk m (Adds state a b whole) → OnErr m (Adds state a b [])
      → Ends state r b (port holds new) → HasStopped e false new held holds whole
  failed-written (Ok done) whole e is failed given put none ends =
      begun-written false whole [] whole e refl is failed (append-nil whole) given put ends
  failed-written (Err fault) whole e is failed given put none ends =
      begun-written false [] whole whole e refl is failed refl given none ends

-- ---- after the reports on lines were put

module _ {T : Type 0} {size : ℕ} (state : T → TargetState) (a b : Text T size) (file : List ℕ) (style : Style) (limit : ℕ)
    (before after : Option (List ℕ)) (unread : Bool) where
  abbrev text_of : List ℕ → List ℕ
  text_of input = lines_text file style limit 1 0 (pieces input)

  -- the reader did not fail
  pub unread-none : (P : Bool → Type 0) (m : Result Bool Failure) → unread ≡ true
      → IfOk m (HasPutLines state a b file style limit before after unread) → IfOk m P
  unread-none P (Ok clean) read put = absurd (false≢true (sym put.sound ∙ read))
  unread-none P (Err e) read put = tt

  module _ (held holds : Option (List ℕ)) (old new : Bool) where
    abbrev Stopped : Failure → Type 0
    Stopped e = (input : List ℕ) × Consumes before after input × HasStopped e unread new held holds (text_of input)

    -- the text ended well
    pub lines-checked : {E : Type 0} (r : Result Unit E) (m : Result Bool Failure) → is_ok r ≡ true → old ≡ false
        → HasGiven state (port held old) a [] → Ends state r b (port holds new)
        → IfOk m (HasPutLines state a b file style limit before after unread)
        → IfOk m (λ clean. (input : List ℕ) × HasRead before after input × Appends held holds (text_of input)
        × (clean ≡ list_all (is_clean_line limit) (pieces input)))
    lines-checked r (Ok clean) ok sound given ends put =
        let start = port held old in
        let all = put.all (sound-text state r start (port holds new) b (text_of put.input) (is_some b.fault) refl ok (ap Some sound)
        (put.put.given start [] given) ends) in
        let written = all-written r holds new (text_of put.input) ok sound given put.put ends in
        (put.input, record { given = put.given; end = all.0 }, written.1, all.1)
    lines-checked r (Err e) ok sound given ends put = tt

    pub lines-sound : {E : Type 0} (r : Result Unit E) (m : Result Bool Failure) → is_ok r ≡ true → old ≡ false
        → HasGiven state (port held old) a [] → Ends state r b (port holds new)
        → IfOk m (HasPutLines state a b file style limit before after unread) → OnOk m ((unread ≡ false) × (new ≡ false))
    lines-sound r (Ok clean) ok sound given ends put =
        (put.sound, (all-written r holds new (text_of put.input) ok sound given put.put ends).0)
    lines-sound r (Err e) ok sound given ends put = tt

    pub lines-stopped : {E : Type 0} (r : Result Unit E) (m : Result Bool Failure) → is_ok r ≡ true → old ≡ false
        → HasGiven state (port held old) a [] → Ends state r b (port holds new)
        → IfErr m (HasPutSome state a b file style limit before after unread) → IfErr m Stopped
    lines-stopped r (Ok clean) ok sound given ends some = tt
    lines-stopped r (Err e) ok sound given ends some = (
      some.input,
      some.given,
      part-written r holds new unread (text_of some.input) e some.output some.memory ok sound given some.put ends,
    )

    -- with the writer's error
    pub lines-failed : {E : Type 0} (r : Result Unit E) (m : Result Bool Failure) (e : Failure) → is_of_output e ≡ true → is_err r ≡ true
        → unread ≡ false → HasGiven state (port held old) a [] → Ends state r b (port holds new)
        → IfOk m (HasPutLines state a b file style limit before after unread)
        → IfErr m (HasPutSome state a b file style limit before after unread) → Stopped e
    lines-failed r (Ok clean) e is failed read given ends put some = let whole = text_of put.input in (
      put.input,
      put.given,
      begun-written r holds new unread whole [] whole e read is failed (append-nil whole) given put.put ends,
    )
    lines-failed r (Err d) e is failed read given ends put some = (
      some.input,
      some.given,
      begun-written r holds new unread some.put.part some.put.rest (text_of some.input) e read is failed some.put.whole given
          some.put.put ends,
    )

    -- the reader failed
    pub unread-stopped : (m : Result Bool Failure) → unread ≡ true → old ≡ false → HasGiven state (port held old) a []
        → state b.target.now ≡ port holds new → IfErr m (HasPutSome state a b file style limit before after unread) → IfErr m Stopped
    unread-stopped (Ok clean) read sound given is some = tt
    unread-stopped (Err e) read sound given is some =
        let sent = some.put.put.given (port held old) [] given in
        let none = some.sound read in
        let failed : Some new ≡ Some old =
        sym (ap (λ s. s.failed) is) ∙ sent.failed ∙ ap (λ f. failed_or f (Some old)) none in
        let well : new ≡ false = some-is failed ∙ sound in
        let parts : text_of some.input ≡ sent.sent ++ (sent.left ++ some.put.rest) =
        sym some.put.whole ∙ ap (λ us. us ++ some.put.rest) (sym sent.whole) ∙ append_assoc sent.sent sent.left some.put.rest in (
          some.input,
          some.given,
          record {
            output = some.output ∙ sym well;
            one = λ _. well;
            memory = λ h. absurd (false≢true (sym h ∙ read));
            count = length sent.sent;
            written =
                subst (Appends held holds) (sym (ap (take (length sent.sent)) parts ∙ take-append_seam sent.sent (sent.left ++ some.put.rest)))
                (subst (λ s. Appends held s.held sent.sent) is sent.taken);
          },
        )

pub nothing-put : {T : Type 0} {size : ℕ} {state : T → TargetState} {a b : Text T size} (whole : List ℕ) → Adds state a b []
    → HasPart state a b whole
nothing-put whole none = record { part = []; rest = whole; whole = refl; put = none }
