-- How files had runs, as a loop over them goes on and ends.
use Rattle.std.proofs.Common.{◌≡◌, ◌∙◌, refl, ap, sym, subst, ℕ, ◌+◌, ◌<◌, List, [], ◌∷◌, Bool, true, false, length, drop, get_or, add-one}
use Rattle.std.proofs.Common.{drop-cons}
use Rattle.programs.specs.Turns.{HasRunEach, OnClosed, Runs, left_by}

on-closed : (b : Bool) {P : Type 0} (Q : Type 0) → b ≡ true → P → OnClosed b P Q
on-closed true Q is p = p
on-closed false Q is p = cc

on-open : (b : Bool) (P : Type 0) {Q : Type 0} → b ≡ false → Q → OnClosed b P Q
on-open true P is q = cc
on-open false P is q = q

pub cut-at : {X : Type 0} (xs : List X) (i : ℕ) (d : X) → i < length xs → drop i xs ≡ get_or xs i d ∷ drop (i + 1) xs
cut-at xs i d within = rw (add-one, drop-cons xs i d) refl

module _ {S X R T : Type 0} (step : S → X → R → S → Type 0) (closed : R → Bool) (next : T → R → T) (first : T) (start : S)
    (files : List X) where
  -- whatever the runs over the other files return, all together have returned that after what the earlier ones did
  abbrev pub GoesOn : S → List X → T → Type 0
  GoesOn s others left = (results : List R) (last : S) → Runs step closed s others results last
      → (all : List R) × Runs step closed start files all last × (left_by next first all ≡ left_by next left results)

  abbrev Done : T → Type 0
  Done left = HasRunEach step closed next first start files left

  pub one-more : (s t : S) (x : X) (here others : List X) (r : R) (left new : T) → here ≡ x ∷ others → step s x r t → closed r ≡ false
      → new ≡ next left r → GoesOn s here left → GoesOn t others new
  one-more s t x here others r left new cut one not_closed is so_far = λ results last rest.
      let all =
      so_far (r ∷ results) last
      (subst (λ ys. Runs step closed s ys (r ∷ results) last) (sym cut) (t, one, on-open (closed r) _ not_closed rest)) in
      (all.0, all.1, all.2 ∙ ap (λ l. left_by next l results) (sym is))

  pub at-end : (s : S) (here : List X) (left : T) → here ≡ [] → GoesOn s here left → Done left
  at-end s here left none so_far =
      let all = so_far [] s (subst (λ ys. Runs step closed s ys [] s) (sym none) refl) in
      record { results = all.0; last = s; runs = all.1; all = sym all.2 }

  pub at-close : (s t : S) (x : X) (here others : List X) (r : R) (left new : T) → here ≡ x ∷ others → step s x r t → closed r ≡ true
      → new ≡ next left r → GoesOn s here left → Done new
  at-close s t x here others r left new cut one closes is so_far =
      let all =
      so_far (r ∷ []) t (subst (λ ys. Runs step closed s ys (r ∷ []) t) (sym cut) (t, one, on-closed (closed r) _ closes (refl, refl))) in
      record { results = all.0; last = t; runs = all.1; all = is ∙ sym all.2 }
