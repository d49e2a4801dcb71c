-- Runs over files, one after another, each of which changes a state.
use Rattle.std.specs.Prelude.{◌≡◌, List, [], ◌∷◌, Bool, true, false}

-- what runs leave, by what one more does
abbrev pub left_by : {R T : Type 0} → (T → R → T) → T → List R → T
left_by next left [] = left
left_by next left (r ∷ rs) = left_by next (next left r) rs

abbrev pub OnClosed : Bool → Type 0 → Type 0 → Type 0
OnClosed true P Q = P
OnClosed false P Q = Q

-- the files had runs in turn, and these returned this: up to the first after which nobody reads the output any more
abbrev pub Runs : {S X R : Type 0} → (S → X → R → S → Type 0) → (R → Bool) → S → List X → List R → S → Type 0
Runs step closed s [] [] last = s ≡ last
Runs step closed s [] (r ∷ rs) last = ⊥
Runs step closed s (x ∷ xs) [] last = ⊥
Runs {S} step closed s (x ∷ xs) (r ∷ rs) last =
    (t : S) × step s x r t × OnClosed (closed r) ((rs ≡ []) × (t ≡ last)) (Runs step closed t xs rs last)

-- and they leave this, from what there was at first
pub record HasRunEach {S X R T : Type 0} (step : S → X → R → S → Type 0) (closed : R → Bool) (next : T → R → T) (first : T) (s : S)
    (files : List X) (left : T) : Type 0 where
  pub results : List R
  pub last : S
  pub runs : Runs step closed s files results last
  pub all : left ≡ left_by next first results
