-- What the forms that return an item, and those that return an error, say of a walk.
use Rattle.std.proofs.Common.{◌≡◌, refl, sym, ◌∙◌, ap, [], ◌∷◌}
use Rattle.std.specs.Prelude.{Option, Some, None, Result, Ok, Err, MatchOption, MatchResult, option_map}
use Rattle.std.specs.Result.{result_ok}
use Rattle.simd_json_ondemand.specs.Stopped.{error_at, told}
use Rattle.simd_json_ondemand.specs.Walks.{Walk, stopped, ended, came, found, items}
use Rattle.simd_json_parts.specs.Views.{ok_map}
use Rattle.simd_json_ondemand.specs.declared.unexpected.Unexpected.{Unexpected}
use Rattle.simd_json_ondemand.specs.declared.walk.StoppedAt.{StoppedAt}
use Rattle.simd_json_ondemand.proofs.Walks.{items-came, items-ended, items-stopped}

-- ---- the error

pub told-map : {A B : Type 0} (f : A → B) (r : Result A StoppedAt) → ok_map f (told (λ x. x) r) ≡ told f r
told-map f (Ok x) = refl
told-map f (Err s) = refl

pub told-match : {A : Type 0} (P : A → Type 0) (Q : Unexpected → Type 0) (r : Result A StoppedAt) → MatchResult r P (λ s. Q (error_at s))
    → MatchResult (told (λ x. x) r) P Q
told-match P Q (Ok x) m = m
told-match P Q (Err s) m = m

pub told-ok : {A : Type 0} (r : Result A StoppedAt) → result_ok (told (λ x. x) r) ≡ result_ok r
told-ok (Ok x) = refl
told-ok (Err s) = refl

pub found-in-told : {A : Type 0} (r : Result (Option A) StoppedAt) → found (told (λ x. x) r) ≡ found r
found-in-told (Ok x) = refl
found-in-told (Err s) = refl

-- ---- the item

pub found-map : {A B : Type 0} (f : A → B) (r : Result (Option A) StoppedAt) → found (told (option_map f) r) ≡ option_map f (found r)
found-map f (Ok x) = refl
found-map f (Err s) = refl

-- as what was found is said to be
pub found-is : {A B : Type 0} (f : A → B) (r : Result (Option A) StoppedAt) (o : Option A) (x : Result (Option B) Unexpected) → o ≡ found r
    → told (option_map f) r ≡ x → option_map f o ≡ found x
found-is f r o x is same = ap (option_map f) is ∙ sym (found-map f r) ∙ ap found same

pub found-match : {A : Type 0} (M N : Type 0) (Q : A → Type 0) (S : StoppedAt → Type 0) (r : Result (Option A) StoppedAt) → (N → M)
    → ((s : StoppedAt) → S s → M) → MatchResult r (λ o. MatchOption o N Q) S → MatchOption (found r) M Q
found-match M N Q S (Ok (Some x)) end stop m = m
found-match M N Q S (Ok None) end stop m = end m
found-match M N Q S (Err s) end stop m = stop s m

pub ok-match : {A : Type 0} (M : Type 0) (Q : A → Type 0) (S : StoppedAt → Type 0) (r : Result A StoppedAt) → ((s : StoppedAt) → S s → M)
    → MatchResult r Q S → MatchOption (result_ok r) M Q
ok-match M Q S (Ok x) stop m = m
ok-match M Q S (Err s) stop m = stop s m

-- ---- nothing is left where the walk is over

module _ {A : Type 0} (w : Walk A) where
  pub over-ended : w ≡ ended → items w ≡ []
  over-ended h = ap items h ∙ items-ended

  pub over-stopped : (e : Unexpected) → w ≡ stopped e → items w ≡ []
  over-stopped e h = ap items h ∙ items-stopped e

  pub one-came : (x : A) (more : Walk A) → w ≡ came x more → items w ≡ x ∷ items more
  one-came x more h = ap items h ∙ items-came x more

-- a step, as an iterator's
pub yields : {A B : Type 0} (view : A → B) (w more : Walk B) (P : Type 0) (r : Result (Option A) StoppedAt) → (P → more ≡ w)
    → MatchResult r (λ o. MatchOption o ((w ≡ ended) × P) (λ x. w ≡ came (view x) more)) (λ s. (w ≡ stopped (error_at s)) × P)
    → MatchOption (found r) ((items w ≡ []) × (items more ≡ [])) (λ x. items w ≡ view x ∷ items more)
yields view w more P (Ok (Some x)) same m = one-came w (view x) more m
yields view w more P (Ok None) same m = let none = over-ended w m.0 in (none, ap items (same m.1) ∙ none)
yields view w more P (Err s) same m = let none = over-stopped w (error_at s) m.0 in (none, ap items (same m.1) ∙ none)

pub comes : {A B : Type 0} (view : A → B) (w more : Walk B) (r : Result (Option A) StoppedAt)
    → MatchResult r (λ o. MatchOption o (w ≡ ended) (λ x. w ≡ came (view x) more)) (λ s. w ≡ stopped (error_at s))
    → MatchOption (found r) (items w ≡ []) (λ x. w ≡ came (view x) more)
comes view w more r = found-match _ _ _ _ r (over-ended w) (λ s. over-stopped w (error_at s))

pub goes : {A B : Type 0} (view : A → B) (w more : Walk B) (P : Type 0) (r : Result (Option A) StoppedAt)
    → MatchResult r (λ o. MatchOption o ((w ≡ ended) × P) (λ x. w ≡ came (view x) more)) (λ s. (w ≡ stopped (error_at s)) × P)
    → MatchOption (found r) (items w ≡ []) (λ x. w ≡ came (view x) more)
goes view w more P r = found-match _ _ _ _ r (λ e. over-ended w e.0) (λ s e. over-stopped w (error_at s) e.0)

-- a search, whose cursor stays where nothing is found
pub seeks : {A B : Type 0} (w : Walk B) (P : Type 0) (Q : A → Type 0) (r : Result (Option A) StoppedAt)
    → MatchResult r (λ o. MatchOption o ((w ≡ ended) × P) Q) (λ s. (w ≡ stopped (error_at s)) × P)
    → MatchOption (found r) ((items w ≡ []) × P) Q
seeks w P Q r = found-match _ _ _ _ r (λ e. (over-ended w e.0, e.1)) (λ s e. (over-stopped w (error_at s) e.0, e.1))

pub found-some : {A : Type 0} (r : Result (Option A) StoppedAt) (x : A) → Some x ≡ found r → r ≡ Ok (Some x)
found-some (Ok (Some y)) x h = ap (λ o. Ok o) (sym h)
found-some (Ok None) x h = cc
found-some (Err s) x h = cc
