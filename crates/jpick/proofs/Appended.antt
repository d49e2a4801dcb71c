-- Loops over elements.
use Rattle.std.proofs.Common.{◌≡◌, ◌∙◌, ap, sym, refl, Bool, true, false, ◌&&◌, Option, Some, None, ◌<◌, ◌+◌, ℕ, zero, suc}
use Rattle.std.proofs.Common.{List, [], ◌∷◌, take, length, get_or, arith}
use Rattle.std.proofs.lemmas.List.Folds.{list_all_more}
use Rattle.std.specs.List.{list_all}
use Rattle.std.specs.Prelude.{is_some, option_map}

-- ---- that all pass

pub all-more : {X : Type 0} (p : X → Bool) (xs : List X) (i : ℕ) (d : X) → i < length xs → list_all p (take i xs) ≡ true
    → p (get_or xs i d) ≡ true → list_all p (take (i + 1) xs) ≡ true
all-more p xs i d more so_far one = list_all_more p xs i d more ∙ ap (λ b. b && p (get_or xs i d)) so_far ∙ one

pub and-first : (a b : Bool) → (a && b) ≡ true → a ≡ true
and-first true b is = refl
and-first false b is = cc

pub and-second : (a b : Bool) → (a && b) ≡ true → b ≡ true
and-second true b is = is
and-second false b is = cc

-- one of them passes
pub all-at : {X : Type 0} (p : X → Bool) (xs : List X) (i : ℕ) (d : X) → i < length xs → list_all p xs ≡ true
    → p (get_or xs i d) ≡ true
all-at p [] i d more all = absurd (omega arith)
all-at p (x ∷ xs) zero d more all = and-first (p x) (list_all p xs) all
all-at p (x ∷ xs) (suc i) d more all = all-at p xs i d (omega arith) (and-second (p x) (list_all p xs) all)

-- ---- a value that is seen as another

pub is-seen : {A B : Type 0} (f : A → B) (r : Option A) (o : Option B) (b : Bool) → option_map f r ≡ o → is_some r ≡ b → is_some o ≡ b
is-seen f None o b is there = ap is_some (sym is) ∙ there
is-seen f (Some x) o b is there = ap is_some (sym is) ∙ there
