-- What calls put into a text, one after another, until one fails.
use Rattle.std.proofs.Common.{◌≡◌, ◌∙◌, ap, sym, subst, ℕ, ◌+◌, List, [], ◌++◌, append-nil, length, take, Ok, Err, Option, None, Some}
use Rattle.std.proofs.Common.{◌<◌, false, arith, Bool, true, refl, length-append, flat_map, get_or, drop}
use Rattle.std.proofs.lemmas.List.{take-append-drop}
use Rattle.std.proofs.lemmas.List.Concat.{flat_map-append}
use Rattle.simd_json_print.proofs.FlatMaps.{flat_map-more}
use Rattle.std.proofs.Math.Seq.{take-append-add, take-length}
use Rattle.std.specs.Io.KnownBytes.{Appends}
use Rattle.std.specs.Prelude.{IfNone, IsErrAnd, OnErr, OnOk, Result, is_some}
use Rattle.programs.proofs.Begins.{front-of}
use Rattle.simd_json_print.specs.Texts.{Adds, HasGiven, IsUnsent, TargetState}
use Rattle.simd_json_print.specs.declared.text.Text.{Text}
use Rattle.simd_json_print.proofs.Texts.{adds-is, adds-none, adds-then}
use Rattle.jpick.specs.Putting.{Puts}

is-lost : {E : Type 0} (o : Option E) (collected left : List ℕ) → is_some o ≡ true → IsUnsent o collected left → 0 < length left
is-lost None collected left stopped is = cc
is-lost (Some e) collected left stopped is = is

module _ {T : Type 0} {size : ℕ} (state : T → TargetState) where
  abbrev pub Begun : Text T size → Text T size → List ℕ → Type 0
  Begun a b bytes = (count : ℕ) × Adds state a b (take count bytes)

  pub begun-none : (a : Text T size) (xs : List ℕ) → Begun a a xs
  begun-none a xs = (0, adds-none state a)

  pub begun-all : (a b : Text T size) (xs : List ℕ) → Adds state a b xs → Begun a b xs
  begun-all a b xs g = (length xs, adds-is state a b xs _ (sym (take-length xs)) g)

  pub begun-more : (a b : Text T size) (xs ys : List ℕ) → Begun a b xs → Begun a b (xs ++ ys)
  begun-more a b xs ys g = (length (take g.0 xs), adds-is state a b _ _ (sym (front-of g.0 xs ys)) g.1)

  pub begun-then : (a b c : Text T size) (xs ys : List ℕ) → Adds state a b xs → Begun b c ys → Begun a c (xs ++ ys)
  begun-then a b c xs ys g h =
      (length xs + h.0, adds-is state a c _ _ (sym (take-append-add xs ys h.0)) (adds-then state a b c xs (take h.0 ys) g h.1))

  pub begun-is : (a b : Text T size) (xs ys : List ℕ) → xs ≡ ys → Begun a b xs → Begun a b ys
  begun-is a b xs ys is g = subst (Begun a b) is g

  -- a failure that is handed on
  pub puts-err : {E : Type 0} (r : Result Unit E) (P : E → Type 0) (a b : Text T size) (xs : List ℕ) → IsErrAnd r P → Begun a b xs
      → Puts state a b r xs
  puts-err (Ok u) P a b xs is begun = absurd is
  puts-err (Err e) P a b xs is begun = begun

  -- of a call that puts nothing where it fails
  pub puts-whole : {E : Type 0} (r : Result Unit E) (a b : Text T size) (xs : List ℕ) → OnOk r (Adds state a b xs) → OnErr r (b ≡ a)
      → Puts state a b r xs
  puts-whole (Ok u) a b xs put failed = put
  puts-whole (Err e) a b xs put failed = subst (λ t. Begun a t xs) (sym failed) (begun-none a xs)

  pub puts-then : {E : Type 0} (r : Result Unit E) (a b c : Text T size) (xs ys : List ℕ) → Adds state a b xs → Puts state b c r ys
      → Puts state a c r (xs ++ ys)
  puts-then (Ok u) a b c xs ys g h = adds-then state a b c xs ys g h
  puts-then (Err e) a b c xs ys g h = begun-then a b c xs ys g h

  pub puts-is : {E : Type 0} (r : Result Unit E) (a b : Text T size) (xs ys : List ℕ) → xs ≡ ys → Puts state a b r xs → Puts state a b r ys
  puts-is r a b xs ys is puts = subst (Puts state a b r) is puts

  pub puts-begun : {E : Type 0} (r : Result Unit E) (a b : Text T size) (xs : List ℕ) → Puts state a b r xs → Begun a b xs
  puts-begun (Ok u) a b xs puts = begun-all a b xs puts
  puts-begun (Err e) a b xs begun = begun

  -- ---- what the target holds

  pub new-sound : (start : TargetState) (text : Text T size) → HasGiven state start text [] → is_some text.fault ≡ false
  new-sound start text g = of (is_some text.fault) refl
    where
      of : (b : Bool) → is_some text.fault ≡ b → b ≡ false
      of false is = refl
      of true is = absurd (omega (arith, length-append g.sent g.left, ap length g.whole, is-lost text.fault text.collected g.left is g.is_left))

  -- after all was written
  pub flushed : (start : TargetState) (text : Text T size) (bytes : List ℕ) → is_some text.fault ≡ false
      → IfNone text.fault (text.collected ≡ []) → HasGiven state start text bytes → Appends start.held (state text.target.now).held bytes
  flushed start text bytes sound none g =
      let left = none-left text.fault text.collected g.left sound none g.is_left in
      subst (Appends start.held (state text.target.now).held) (sym (append-nil g.sent) ∙ ap (λ us. g.sent ++ us) (sym left) ∙ g.whole) g.taken
    where
      none-left : {E : Type 0} (o : Option E) (collected left : List ℕ) → is_some o ≡ false → IfNone o (collected ≡ [])
          → IsUnsent o collected left → left ≡ []
      none-left None collected left sound none is = is ∙ none
      none-left (Some e) collected left sound none is = cc

  -- ---- what a loop puts: what each element stands for

  -- one element more
  pub adds-more : {X : Type 0} (f : X → List ℕ) (xs : List X) (i : ℕ) (d : X) (a b c : Text T size) {piece : List ℕ} → i < length xs
      → Adds state a b (flat_map f (take i xs)) → piece ≡ f (get_or xs i d) → Adds state b c piece
      → Adds state a c (flat_map f (take (i + 1) xs))
  adds-more f xs i d a b c {piece} more done is put =
      adds-is state a c _ _ (ap (λ us. flat_map f (take i xs) ++ us) is ∙ sym (flat_map-more f xs i d more))
      (adds-then state a b c _ piece done put)

  -- a beginning of one more
  pub begun-part : {X : Type 0} (f : X → List ℕ) (xs : List X) (i : ℕ) (d : X) (a b c : Text T size) {piece : List ℕ} → i < length xs
      → Adds state a b (flat_map f (take i xs)) → piece ≡ f (get_or xs i d) → Begun b c piece → Begun a c (flat_map f xs)
  begun-part f xs i d a b c {piece} more done is put =
      begun-is a c _ _ (sym (flat_map-append f (take (i + 1) xs) (drop (i + 1) xs)) ∙ ap (flat_map f) (take-append-drop (i + 1) xs))
      (begun-more a c (flat_map f (take (i + 1) xs)) (flat_map f (drop (i + 1) xs))
      (begun-is a c _ _ (ap (λ us. flat_map f (take i xs) ++ us) is ∙ sym (flat_map-more f xs i d more)) (begun-then a b c _ piece done put)))

  -- all of them
  pub adds-whole : {X : Type 0} (f : X → List ℕ) (xs : List X) (i : ℕ) (a b : Text T size) → i ≡ length xs
      → Adds state a b (flat_map f (take i xs)) → Adds state a b (flat_map f xs)
  adds-whole f xs i a b all done =
      adds-is state a b _ _ (ap (λ n. flat_map f (take n xs)) all ∙ ap (flat_map f) (take-length xs)) done
