-- Laws of what a text was given.
use Rattle.std.proofs.Common.{◌≡◌, ◌<◌, ◌∙◌, ap, sym, refl, subst, arith, ℕ, Bool, true, false, List, [], ◌∷◌, ◌++◌, Option, None, Some}
use Rattle.std.proofs.Common.{append_assoc, append-nil, length, length-append, length-drop, take, drop, take-append-drop, Result, Ok, Err}
use Rattle.std.proofs.Common.{is_some, is_none, is_ok, OnOk, OnErr, IfNone, option_map, ◌||◌, ◌&&◌, ◌==◌, zero, suc, nat_lt}
use Rattle.std.proofs.Math.Seq.{take-append_seam}
use Rattle.std.proofs.lemmas.Bool.{false≢true, lt-ltb}
use Rattle.std.specs.Io.KnownBytes.{Appends, Keeps}
use Rattle.simd_json_print.specs.Texts.{TargetState, Takes, IsUnsent, failed_or, HasGiven, HasFailed, HasEnded, Adds, AddsSome, IsLonger}
use Rattle.simd_json_print.specs.declared.text.Text.{Text}

pub appends-none : (a : Option (List ℕ)) → Appends a a []
appends-none None = tt
appends-none (Some xs) = sym (append-nil xs)

pub appends-then : (a b c : Option (List ℕ)) (us vs : List ℕ) → Appends a b us → Appends b c vs → Appends a c (us ++ vs)
appends-then None b c us vs p q = tt
appends-then (Some xs) None c us vs p q = absurd p
appends-then (Some xs) (Some ys) None us vs p q = absurd q
appends-then (Some xs) (Some ys) (Some zs) us vs p q = q ∙ ap (λ ws. ws ++ vs) p ∙ append_assoc xs us vs

appends-keeps : (a b c : Option (List ℕ)) (us : List ℕ) → Appends a b us → Keeps b c → Appends a c us
appends-keeps None b c us p q = tt
appends-keeps (Some xs) None c us p q = absurd p
appends-keeps (Some xs) (Some ys) None us p q = absurd q
appends-keeps (Some xs) (Some ys) (Some zs) us p q = q ∙ p

-- ---- lengths

shorter : (xs ys whole : List ℕ) → xs ++ ys ≡ whole → 0 < length ys → length xs < length whole
shorter xs ys whole all some = subst (λ us. length xs < length us) all (omega (arith, length-append xs ys, some))

some-more : (xs ys : List ℕ) → 0 < length xs → 0 < length (xs ++ ys)
some-more xs ys some = omega (arith, length-append xs ys, some)

some-left : (n : ℕ) (xs : List ℕ) → n < length xs → 0 < length (drop n xs)
some-left n xs less = omega (arith, length-drop n xs, less)

-- ---- one call, after these bytes were sent

failed-now : (o : Option Bool) (last : Bool) → option_map (λ failed. failed || true || last) o ≡ option_map (λ _. true) o
failed-now None last = refl
failed-now (Some true) last = refl
failed-now (Some false) last = refl

none-now : (o : Option Bool) (t : Bool) → t ≡ true → option_map (λ failed. failed || false || t) o ≡ option_map (λ _. true) o
none-now None t is = refl
none-now (Some true) t is = refl
none-now (Some false) t is = ap Some is

pub write-failed : {E : Type 0} (e : E) (a b c : TargetState) (sent left whole : List ℕ) → Takes b c (Err e) left → 0 < length left
    → Appends a.held b.held sent → sent ++ left ≡ whole → b.failed ≡ a.failed → HasFailed a c whole
write-failed e a b c sent left whole t some p all same = (
  (
    length sent,
    shorter sent left whole all some,
    subst (λ us. Appends a.held c.held us) (sym (take-append_seam sent left) ∙ ap (take (length sent)) all)
        (appends-keeps a.held b.held c.held sent p t.taken),
  ),
  t.failed ∙ failed-now b.failed _ ∙ ap (option_map (λ _. true)) same,
)

pub write-zero : {E : Type 0} (n : ℕ) (a b c : TargetState) (sent left whole : List ℕ) → n ≡ 0 → Takes {E = E} b c (Ok n) left
    → 0 < length left → Appends a.held b.held sent → sent ++ left ≡ whole → b.failed ≡ a.failed → HasFailed a c whole
write-zero zero a b c sent left whole is t some p all same = (
  (
    length sent,
    shorter sent left whole all some,
    subst (λ us. Appends a.held c.held us) (append-nil sent ∙ sym (take-append_seam sent left) ∙ ap (take (length sent)) all)
        (appends-then a.held b.held c.held sent [] p t.taken),
  ),
  t.failed ∙ none-now b.failed _ (lt-ltb 0 (length left) some) ∙ ap (option_map (λ _. true)) same,
)
write-zero (suc n) a b c sent left whole is t some p all same = cc

sound-now : (o : Option Bool) (t : Bool) → t ≡ false → option_map (λ failed. failed || false || t) o ≡ o
sound-now None t is = refl
sound-now (Some true) t is = refl
sound-now (Some false) t is = ap Some is

and-off : (b t : Bool) → b ≡ false → (b && t) ≡ false
and-off true t is = cc
and-off false t is = refl

pub write-more : {E : Type 0} (n : ℕ) (a b c : TargetState) (sent left rest whole : List ℕ) → Takes {E = E} b c (Ok n) left
    → (n == 0) ≡ false → rest ≡ drop n left → Appends a.held b.held sent → sent ++ left ≡ whole → b.failed ≡ a.failed
    → (more : List ℕ) × Appends a.held c.held more × (more ++ rest ≡ whole) × (c.failed ≡ a.failed)
write-more n a b c sent left rest whole t some is p all same = (
  sent ++ take n left,
  appends-then a.held b.held c.held sent (take n left) p t.taken,
  ap (λ us. (sent ++ take n left) ++ us) is ∙ append_assoc sent (take n left) (drop n left)
      ∙ ap (λ us. sent ++ us) (take-append-drop n left) ∙ all,
  t.failed ∙ sound-now b.failed _ (and-off (n == 0) (nat_lt 0 (length left)) some) ∙ same,
)

-- ---- texts

left-of : {E : Type 0} (o : Option E) (collected left : List ℕ) → is_some o ≡ false → IsUnsent o collected left → left ≡ collected
left-of None collected left off is = is
left-of (Some e) collected left off is = cc

is-left : {E : Type 0} (o : Option E) (collected left : List ℕ) → is_some o ≡ false → left ≡ collected → IsUnsent o collected left
is-left None collected left off is = is
is-left (Some e) collected left off is = cc

lost-left : {E : Type 0} (o : Option E) (collected left : List ℕ) → is_some o ≡ true → 0 < length left → IsUnsent o collected left
lost-left None collected left stopped some = cc
lost-left (Some e) collected left stopped some = some

is-lost : {E : Type 0} (o : Option E) (collected left : List ℕ) → is_some o ≡ true → IsUnsent o collected left → 0 < length left
is-lost None collected left stopped is = cc
is-lost (Some e) collected left stopped is = is

still : (b : Bool) (o : Option Bool) → b ≡ false → failed_or b o ≡ o
still true o is = cc
still false o is = refl

ended : (b : Bool) (o : Option Bool) → b ≡ true → failed_or b o ≡ option_map (λ _. true) o
ended true o is = refl
ended false o is = cc

module _ {T : Type 0} {size : ℕ} (state : T → TargetState) where
  pub adds-then : (a b c : Text T size) (xs ys : List ℕ) → Adds state a b xs → Adds state b c ys → Adds state a c (xs ++ ys)
  adds-then a b c xs ys g h = record {
    same_target = h.same_target ∙ g.same_target;
    given = λ start before is.
        subst (λ us. HasGiven state start c us) (append_assoc before xs ys) (h.given start (before ++ xs) (g.given start before is));
  }

  -- what fits is collected, or dropped after a failure
  pub adds-collected : (old new : Text T size) (bytes : List ℕ) → new.target ≡ old.target → new.fault ≡ old.fault
      → new.collected ≡ old.collected ++ bytes → Adds state old new bytes
  adds-collected old new bytes target fault all = record {
    same_target = ap (λ o. o.ghost_name) target;
    given = λ start before is. record {
      sent = is.sent;
      left = is.left ++ bytes;
      is_left = more old.fault new.fault old.collected new.collected is.left fault all is.is_left;
      taken = subst (λ o. Appends start.held (state o.now).held is.sent) (sym target) is.taken;
      whole = sym (append_assoc is.sent is.left bytes) ∙ ap (λ us. us ++ bytes) is.whole;
      failed = ap (λ o. (state o.now).failed) target ∙ is.failed ∙ ap (λ f. failed_or (is_some f) start.failed) (sym fault);
    };
  }
    where
      more : {E : Type 0} (o p : Option E) (xs ys left : List ℕ) → p ≡ o → ys ≡ xs ++ bytes → IsUnsent o xs left
          → IsUnsent p ys (left ++ bytes)
      more None None xs ys left same is l = ap (λ us. us ++ bytes) l ∙ sym is
      more (Some e) None xs ys left same is l = cc
      more None (Some e) xs ys left same is l = cc
      more (Some d) (Some e) xs ys left same is l = some-more left bytes l

  -- all was taken
  pub adds-taken : (old new : Text T size) (bytes chunk : List ℕ) → new.target.ghost_name ≡ old.target.ghost_name
      → is_some old.fault ≡ false → is_some new.fault ≡ false → chunk ≡ old.collected ++ bytes → new.collected ≡ []
      → Appends (state old.target.now).held (state new.target.now).held chunk
      → (state new.target.now).failed ≡ (state old.target.now).failed → Adds state old new bytes
  adds-taken old new bytes chunk same sound new_sound all none taken failed = record {
    same_target = same;
    given = λ start before is. record {
      sent = is.sent ++ chunk;
      left = [];
      is_left = is-left new.fault new.collected [] new_sound (sym none);
      taken = appends-then start.held _ _ is.sent chunk is.taken taken;
      whole = append-nil _
          ∙ ap (λ us. is.sent ++ us) (all ∙ ap (λ us. us ++ bytes) (sym (left-of old.fault old.collected is.left sound is.is_left)))
          ∙ sym (append_assoc is.sent is.left bytes) ∙ ap (λ us. us ++ bytes) is.whole;
      failed = failed ∙ is.failed ∙ still _ start.failed sound ∙ sym (still _ start.failed new_sound);
    };
  }

  -- a beginning was taken
  pub adds-failed : (old new : Text T size) (bytes chunk : List ℕ) → new.target.ghost_name ≡ old.target.ghost_name
      → is_some old.fault ≡ false → is_some new.fault ≡ true → chunk ≡ old.collected ++ bytes
      → HasFailed (state old.target.now) (state new.target.now) chunk → Adds state old new bytes
  adds-failed old new bytes chunk same sound stopped all ends = record {
    same_target = same;
    given = λ start before is. record {
      sent = is.sent ++ take ends.0.0 chunk;
      left = drop ends.0.0 chunk;
      is_left = lost-left new.fault new.collected _ stopped (some-left ends.0.0 chunk ends.0.1);
      taken = appends-then start.held _ _ is.sent (take ends.0.0 chunk) is.taken ends.0.2;
      whole = append_assoc is.sent (take ends.0.0 chunk) (drop ends.0.0 chunk)
          ∙ ap (λ us. is.sent ++ us) (take-append-drop ends.0.0 chunk ∙ all
          ∙ ap (λ us. us ++ bytes) (sym (left-of old.fault old.collected is.left sound is.is_left)))
          ∙ sym (append_assoc is.sent is.left bytes) ∙ ap (λ us. us ++ bytes) is.whole;
      failed = ends.1 ∙ ap (option_map (λ _. true)) (is.failed ∙ still _ start.failed sound) ∙ sym (ended _ start.failed stopped);
    };
  }

  -- what is given after a failure is dropped
  pub adds-dropped : (old : Text T size) (bytes : List ℕ) → is_some old.fault ≡ true → Adds state old old bytes
  adds-dropped old bytes stopped = record {
    same_target = refl;
    given = λ start before is. record {
      sent = is.sent;
      left = is.left ++ bytes;
      is_left = lost-left old.fault old.collected _ stopped
          (some-more is.left bytes (is-lost old.fault old.collected is.left stopped is.is_left));
      taken = is.taken;
      whole = sym (append_assoc is.sent is.left bytes) ∙ ap (λ us. us ++ bytes) is.whole;
      failed = is.failed;
    };
  }

  pub adds-none : (a : Text T size) → Adds state a a []
  adds-none a = record {
    same_target = refl;
    given = λ start before is. subst (λ us. HasGiven state start a us) (sym (append-nil before)) is;
  }

  pub adds-is : (a b : Text T size) (xs ys : List ℕ) → xs ≡ ys → Adds state a b xs → Adds state a b ys
  adds-is a b xs ys is g = subst (λ us. Adds state a b us) is g

  -- what is put after the target failed is dropped
  pub adds-lost : (a b : Text T size) (xs ys : List ℕ) → is_some b.fault ≡ true → Adds state a b xs → Adds state a b (xs ++ ys)
  adds-lost a b xs ys stopped g = adds-then a b b xs ys g (adds-dropped b ys stopped)

  pub some-none : (a : Text T size) → AddsSome state a a
  some-none a = ([], adds-none a)

  pub some-then : (a b c : Text T size) → AddsSome state a b → AddsSome state b c → AddsSome state a c
  some-then a b c g h = (g.0 ++ h.0, adds-then a b c g.0 h.0 g.1 h.1)

  pub adds-some : (a b : Text T size) (xs : List ℕ) → Adds state a b xs → AddsSome state a b
  adds-some a b xs g = (xs, g)

-- ---- the end

pub none-then : {E : Type 0} {P : Type 0} (o : Option E) → is_none o ≡ true → IfNone o P → P
none-then None is p = p
none-then (Some e) is p = cc

pub ends-before : {T : Type 0} {size : ℕ} (state : T → TargetState) (start : TargetState) (text : Text T size) (bytes : List ℕ)
    → is_some text.fault ≡ true → HasGiven state start text bytes → HasFailed start (state text.target.now) bytes
ends-before state start text bytes stopped g = (
  (
    length g.sent,
    shorter g.sent g.left bytes g.whole (is-lost text.fault text.collected g.left stopped g.is_left),
    subst (λ us. Appends start.held (state text.target.now).held us)
        (sym (take-append_seam g.sent g.left) ∙ ap (take (length g.sent)) g.whole) g.taken,
  ),
  g.failed ∙ ended _ start.failed stopped,
)

take-further : (xs ys : List ℕ) (n : ℕ) → take (length (xs ++ take n ys)) (xs ++ ys) ≡ xs ++ take n ys
take-further xs ys n = ap (λ us. take (length (xs ++ take n ys)) us) (ap (λ us. xs ++ us) (sym (take-append-drop n ys))
    ∙ sym (append_assoc xs (take n ys) (drop n ys))) ∙ take-append_seam (xs ++ take n ys) (drop n ys)

pub ends-after : {E : Type 0} {T : Type 0} {size : ℕ} (r : Result Unit E) (state : T → TargetState) (start end : TargetState)
    (text : Text T size) (bytes : List ℕ) → is_some text.fault ≡ false
    → HasGiven state start text bytes → HasEnded r (state text.target.now) end text.collected → HasEnded r start end bytes
ends-after (Ok u) state start end text bytes sound g ends = (
  subst (λ us. Appends start.held end.held us)
      (ap (λ us. g.sent ++ us) (sym (left-of text.fault text.collected g.left sound g.is_left)) ∙ g.whole)
      (appends-then start.held _ end.held g.sent text.collected g.taken ends.0),
  ends.1 ∙ g.failed ∙ still _ start.failed sound,
)
ends-after (Err e) state start end text bytes sound g ends = (
  (
    length (g.sent ++ take ends.0.0 text.collected),
    shorter (g.sent ++ take ends.0.0 text.collected) (drop ends.0.0 text.collected) bytes
        (append_assoc g.sent (take ends.0.0 text.collected) (drop ends.0.0 text.collected)
        ∙ ap (λ us. g.sent ++ us) (take-append-drop ends.0.0 text.collected
        ∙ sym (left-of text.fault text.collected g.left sound g.is_left)) ∙ g.whole)
        (some-left ends.0.0 text.collected ends.0.1),
    subst (λ us. Appends start.held end.held us)
        (sym (take-further g.sent text.collected ends.0.0) ∙ ap (take (length (g.sent ++ take ends.0.0 text.collected)))
        (ap (λ us. g.sent ++ us) (sym (left-of text.fault text.collected g.left sound g.is_left)) ∙ g.whole))
        (appends-then start.held _ end.held g.sent (take ends.0.0 text.collected) g.taken ends.0.2),
  ),
  ends.1 ∙ ap (option_map (λ _. true)) (g.failed ∙ still _ start.failed sound),
)

pub ended-written : {E : Type 0} (r : Result Unit E) (a b : TargetState) (bytes : List ℕ) → HasEnded r a b bytes
    → OnOk r (Appends a.held b.held bytes)
ended-written (Ok u) a b bytes ends = ends.0
ended-written (Err e) a b bytes ends = tt

pub ended-begun : {E : Type 0} (r : Result Unit E) (a b : TargetState) (bytes : List ℕ) → HasEnded r a b bytes
    → OnErr r ((count : ℕ) × Appends a.held b.held (take count bytes))
ended-begun (Ok u) a b bytes ends = tt
ended-begun (Err e) a b bytes ends = (ends.0.0, ends.0.2)

-- of a port that had not failed
pub ended-sound : {E : Type 0} (r : Result Unit E) (a b : Option (List ℕ)) (old new : Bool) (bytes : List ℕ)
    → HasEnded r (record { held = a; failed = Some old }) (record { held = b; failed = Some new }) bytes → old ≡ false → is_ok r ≡ true
    → (new ≡ false) × Appends a b bytes
ended-sound (Ok u) a b old false bytes ends sound ok = (refl, ends.0)
ended-sound (Ok u) a b false true bytes ends sound ok = cc
ended-sound (Ok u) a b true true bytes ends sound ok = cc
ended-sound (Err e) a b old new bytes ends sound ok = cc

pub ended-failed : {E : Type 0} (r : Result Unit E) (a b : Option (List ℕ)) (old new : Bool) (bytes : List ℕ)
    → HasEnded r (record { held = a; failed = Some old }) (record { held = b; failed = Some new }) bytes → is_ok r ≡ false
    → (new ≡ true) × ((count : ℕ) × Appends a b (take count bytes))
ended-failed (Ok u) a b old new bytes ends ok = cc
ended-failed (Err e) a b old true bytes ends ok = (refl, (ends.0.0, ends.0.2))
ended-failed (Err e) a b old false bytes ends ok = cc

pub ended-longer : {E : Type 0} (r : Result Unit E) (a b : TargetState) (bytes : List ℕ) → HasEnded r a b bytes → IsLonger a.held b.held
unfolding IsLonger
ended-longer (Ok u) a b bytes ends = (bytes, ends.0)
ended-longer (Err e) a b bytes ends = (take ends.0.0 bytes, ends.0.2)

-- ---- where the text ends well

-- what was given to the text, since any state of the target, is what it ends with
abbrev pub Ends : {T E : Type 0} {size : ℕ} → (T → TargetState) → Result Unit E → Text T size → TargetState → Type 0
Ends state r text end = (start : TargetState) (bytes : List ℕ) → HasGiven state start text bytes → HasEnded r start end bytes

some-is : {x y : Bool} → Some x ≡ Some y → x ≡ y
some-is is = cc

-- nothing failed before
pub sound-text : {T E : Type 0} {size : ℕ} (state : T → TargetState) (r : Result Unit E) (start end : TargetState) (text : Text T size)
    (bytes : List ℕ) (failed : Bool) → is_some text.fault ≡ failed → is_ok r ≡ true → start.failed ≡ Some false
    → HasGiven state start text bytes → Ends state r text end → is_some text.fault ≡ false
sound-text state r start end text bytes false is ok old given ends = is
sound-text state (Err e) start end text bytes true is ok old given ends = cc
sound-text state (Ok u) start end text bytes true is ok old given ends =
    let here = state text.target.now in
    let failed : here.failed ≡ Some true = given.failed ∙ ap (λ f. failed_or f start.failed) is ∙ ap (failed_or true) old in
    let again : HasGiven state here text (0 ∷ []) = record {
      sent = [];
      left = 0 ∷ [];
      is_left = lost-left text.fault text.collected (0 ∷ []) is (search arith);
      taken = appends-none here.held;
      whole = refl;
      failed = failed ∙ sym (ap (λ f. failed_or f here.failed) is ∙ ap (failed_or true) failed);
    } in
    let one = (ends here (0 ∷ []) again).1 ∙ failed in
    let two = (ends start bytes given).1 ∙ old in
    absurd (false≢true (some-is (sym two ∙ one)))

-- a beginning of a beginning
pub take-front : (n : ℕ) (front rest : List ℕ) → (count : ℕ) × (take n front ≡ take count (front ++ rest))
take-front n front rest =
    let begun = take n front in
    let all : begun ++ (drop n front ++ rest) ≡ front ++ rest =
    sym (append_assoc begun (drop n front) rest) ∙ ap (λ us. us ++ rest) (take-append-drop n front) in
    (length begun, sym (ap (take (length begun)) (sym all) ∙ take-append_seam begun (drop n front ++ rest)))
