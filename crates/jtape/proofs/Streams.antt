-- What is put of some pieces of an input, and of one more, and what a port's text ends with.
use Rattle.std.proofs.Common.{◌≡◌, ◌∙◌, refl, ap, sym, subst, inl, inr, Bool, true, false, ◌&&◌, Option, Some, ℕ, List, [], ◌∷◌, ◌++◌, take}
use Rattle.std.proofs.Common.{append-nil, append_assoc, Result, Ok, Err, OnOk, OnErr, IfOk, IfErr, is_ok, is_some}
use Rattle.std.specs.Io.KnownBytes.{Appends}
use Rattle.std.proofs.lemmas.List.Concat.{flat_map-append}
use Rattle.std.proofs.lemmas.List.Folds.{list_all-append}
use Rattle.jtape.specs.Pieces.{pieces, piece_text, pieces_text, is_clean, all_clean}
use Rattle.jtape.specs.Runs.{lacks_memory}
use Rattle.jtape.specs.Streams.{HasPut, StopsWithin}
use Rattle.jtape.specs.declared.runs.RunFault.{RunFault}
use Rattle.jtape.specs.declared.runs.RunFault.TheVariants.{Write}
use Rattle.simd_json_parts.proofs.Pieces.{pieces-some}
use Rattle.simd_json_print.specs.Texts.{TargetState, HasGiven, Adds}
use Rattle.simd_json_print.specs.declared.text.Text.{Text}
use Rattle.simd_json_print.proofs.Texts.{adds-none, adds-is, adds-then, adds-lost, Ends, ended-sound, ended-failed, sound-text, take-front}

-- All pieces but the later ones are done: their text was put, and whether they are clean is known.
pub record AreDone {T : Type 0} {size : ℕ} (state : T → TargetState) (old new : Text T size) (depth : ℕ) (input : List ℕ)
    (later : List (List ℕ))
    (clean : Bool) : Type 0 where
  pub earlier : List (List ℕ)
  pub cut : pieces input ≡ earlier ++ later
  pub put : Adds state old new (pieces_text depth earlier)
  pub are_clean : clean ≡ all_clean depth earlier

pub none-done : {T : Type 0} {size : ℕ} (state : T → TargetState) (text : Text T size) (depth : ℕ) (input : List ℕ)
    → AreDone state text text depth input (pieces input) true
none-done state text depth input = record { earlier = []; cut = refl; put = adds-none state text; are_clean = refl }

and-true : (p : Bool) → (p && true) ≡ p
and-true true = refl
and-true false = refl

pub one-more : {T : Type 0} {size : ℕ} {state : T → TargetState} {a b c : Text T size} {limit depth : ℕ} {input piece : List ℕ}
    {later all : List (List ℕ)} {clean is : Bool} → limit ≡ depth → all ≡ piece ∷ later → AreDone state a b depth input all clean
    → Adds state b c (piece_text limit piece) → is ≡ is_clean limit piece → AreDone state a c depth input later (clean && is)
one-more {state = state} {a = a} {b = b} {c = c} {depth = depth} {piece = piece} {later = later} {is = is} same cut done more are =
    let front = pieces_text depth done.earlier in
    let one : pieces_text depth (done.earlier ++ piece ∷ []) ≡ front ++ piece_text depth piece =
    flat_map-append (piece_text depth) done.earlier (piece ∷ []) ∙ ap (λ ys. front ++ ys) (append-nil (piece_text depth piece)) in
    record {
      earlier = done.earlier ++ piece ∷ [];
      cut = done.cut ∙ ap (λ ps. done.earlier ++ ps) cut ∙ sym (append_assoc done.earlier (piece ∷ []) later);
      put =
          adds-is state a c _ _ (sym one)
          (adds-then state a b c front (piece_text depth piece) done.put (subst (λ n. Adds state b c (piece_text n piece)) same more));
      are_clean =
          ap (λ b. b && is) done.are_clean
          ∙ ap (λ b. all_clean depth done.earlier && b) (are ∙ ap (λ n. is_clean n piece) same ∙ sym (and-true (is_clean depth piece)))
          ∙ sym (list_all-append (is_clean depth) done.earlier (piece ∷ []));
    }

-- after the last piece
pub all-put : {T : Type 0} {size : ℕ} {state : T → TargetState} {a b : Text T size} {depth : ℕ} {input : List ℕ} {clean : Bool}
    → AreDone state a b depth input [] clean → Adds state a b (pieces_text depth (pieces input)) × (clean ≡ all_clean depth (pieces input))
all-put {state = state} {a = a} {b = b} {depth = depth} {input = input} done =
    let all : done.earlier ≡ pieces input = sym (done.cut ∙ append-nil done.earlier) in (
      adds-is state a b _ _ (ap (pieces_text depth) all) done.put,
      done.are_clean ∙ ap (all_clean depth) all,
    )

-- the later pieces are dropped, once the target failed
pub others-lost : {T : Type 0} {size : ℕ} {state : T → TargetState} {a b : Text T size} {depth : ℕ} {input : List ℕ} {later : List (List ℕ)}
    {clean : Bool} → is_some b.fault ≡ true → AreDone state a b depth input later clean → Adds state a b (pieces_text depth (pieces input))
others-lost {state = state} {a = a} {b = b} {depth = depth} {later = later} stopped done =
    adds-is state a b _ _ (sym (flat_map-append (piece_text depth) done.earlier later) ∙ ap (pieces_text depth) (sym done.cut))
    (adds-lost state a b (pieces_text depth done.earlier) (pieces_text depth later) stopped done.put)

-- ---- where an allocation fails

-- before the first piece
pub stops-before : {T : Type 0} {size : ℕ} (state : T → TargetState) (text : Text T size) (depth : ℕ) (input : List ℕ)
    → HasPut state text text depth input
stops-before state text depth input =
    let some = pieces-some input in
    record { earlier = []; piece = some.0; later = some.1; cut = some.2; put = adds-none state text }

-- at a piece, of which nothing is put
pub stops-at : {T : Type 0} {size : ℕ} {state : T → TargetState} {a b c : Text T size} {depth : ℕ} {input piece : List ℕ}
    {later all : List (List ℕ)} {clean : Bool} → all ≡ piece ∷ later → AreDone state a b depth input all clean → Adds state b c []
    → HasPut state a c depth input
stops-at {state = state} {a = a} {b = b} {c = c} {piece = piece} {later = later} cut done none =
    record {
      earlier = done.earlier;
      piece = piece;
      later = later;
      cut = done.cut ∙ ap (λ ps. done.earlier ++ ps) cut;
      put = adds-is state a c _ _ (append-nil _) (adds-then state a b c _ [] done.put none);
    }

-- ---- at the end, of a port that had not failed

pub stream-returned : {T E : Type 0} {size : ℕ} {state : T → TargetState} (r : Result Unit E) {start : TargetState} (end : TargetState)
    {a b : Text T size} (m : Result Bool RunFault) (depth : ℕ) (input : List ℕ) → is_ok r ≡ true → start.failed ≡ Some false
    → HasGiven state start a [] → OnOk m (Adds state a b (pieces_text depth (pieces input)))
    → IfOk m (λ clean. is_some b.fault ≡ false → clean ≡ all_clean depth (pieces input)) → Ends state r b end
    → OnOk m (m ≡ Ok (all_clean depth (pieces input)))
stream-returned {state = state} r {start = start} end {b = b} (Ok clean) depth input ok old given put are ends =
    let whole = pieces_text depth (pieces input) in
    ap Ok (are (sound-text state r start end b whole (is_some b.fault) refl ok old (put.given start [] given) ends))
stream-returned r end (Err fault) depth input ok old given put are ends = tt

pub stream-written : {T E : Type 0} {size : ℕ} {state : T → TargetState} (r : Result Unit E) {held : Option (List ℕ)} {old : Bool}
    (holds : Option (List ℕ)) (new : Bool) {a b : Text T size} (m : Result Bool RunFault) (whole : List ℕ) → is_ok r ≡ true → old ≡ false
    → HasGiven state (record { held = held; failed = Some old }) a [] → OnOk m (Adds state a b whole)
    → Ends state r b (record { held = holds; failed = Some new }) → OnOk m ((new ≡ false) × Appends held holds whole)
stream-written r holds new (Ok clean) whole ok sound given put ends =
    ended-sound r _ _ _ _ whole (ends _ whole (put.given _ [] given)) sound ok
stream-written r holds new (Err fault) whole ok sound given put ends = tt

pub stream-stopped : {T E : Type 0} {size : ℕ} {state : T → TargetState} (r : Result Unit E) {held : Option (List ℕ)} {old : Bool}
    (holds : Option (List ℕ)) (new : Bool) {a b : Text T size} (m : Result Bool RunFault) (depth : ℕ) (input : List ℕ)
    → is_ok r ≡ true → old ≡ false → HasGiven state (record { held = held; failed = Some old }) a []
    → IfErr m (λ fault. fault ≡ lacks_memory) → OnErr m (HasPut state a b depth input)
    → Ends state r b (record { held = holds; failed = Some new }) → IfErr m (λ fault. StopsWithin fault new held holds depth input)
stream-stopped r holds new (Ok clean) depth input ok sound given lacks put ends = tt
stream-stopped r holds new (Err fault) depth input ok sound given lacks put ends =
    let front = pieces_text depth put.earlier in
    let all = ended-sound r _ _ _ _ front (ends _ front (put.put.given _ [] given)) sound ok in
    inl (lacks, all.0, record { earlier = put.earlier; piece = put.piece; later = put.later; cut = put.cut; written = all.1 })

pub stream-begun : {T E : Type 0} {size : ℕ} {state : T → TargetState} (r : Result Unit E) {held : Option (List ℕ)} {old : Bool}
    (holds : Option (List ℕ)) (new : Bool) {a b : Text T size} (m : Result Bool RunFault) (depth : ℕ) (input : List ℕ)
    → is_ok r ≡ false → HasGiven state (record { held = held; failed = Some old }) a []
    → OnOk m (Adds state a b (pieces_text depth (pieces input))) → OnErr m (HasPut state a b depth input)
    → Ends state r b (record { held = holds; failed = Some new }) → StopsWithin Write new held holds depth input
stream-begun r holds new (Ok clean) depth input failed given put stopped ends =
    let whole = pieces_text depth (pieces input) in
    let begun = ended-failed r _ _ _ _ whole (ends _ whole (put.given _ [] given)) failed in
    inr (refl, begun.0, begun.1)
stream-begun r {held = held} holds new (Err fault) depth input failed given put stopped ends =
    let front = pieces_text depth stopped.earlier in
    let rest = stopped.piece ∷ stopped.later in
    let begun = ended-failed r _ _ _ _ front (ends _ front (stopped.put.given _ [] given)) failed in
    let count = take-front begun.1.0 front (pieces_text depth rest) in
    let whole = ap (pieces_text depth) stopped.cut ∙ flat_map-append (piece_text depth) stopped.earlier rest in
    inr (refl, begun.0, (count.0, subst (Appends held holds) (count.1 ∙ ap (take count.0) (sym whole)) begun.1.1))
