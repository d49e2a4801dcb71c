-- The first and the last characters of a list of bytes, as loops over an index find them.
use Rattle.std.proofs.Common.{◌≡◌, ◌∙◌, refl, arith, ℕ, zero, suc, ◌+◌, ◌<◌, ◌≤◌, List, [], ◌∷◌, drop, length}
use Rattle.std.proofs.lemmas.List.Sums.{sum_by-cons}
use Rattle.jcheck.specs.Excerpts.{begun, characters, last_characters}

pub characters-cons : (x : ℕ) (s : List ℕ) → characters (x ∷ s) ≡ begun x + characters s
characters-cons x s = sum_by-cons begun x s

-- there are no more of them after byte k
pub characters-drop : (k : ℕ) (s : List ℕ) → characters (drop k s) ≤ characters s
characters-drop zero s = omega arith
characters-drop (suc k) [] = omega arith
characters-drop (suc k) (x ∷ s) = omega (arith, characters-drop k s, characters-cons x s)

last-stays : (n : ℕ) (x : ℕ) (s : List ℕ) → characters s < n → last_characters n (x ∷ s) ≡ x ∷ s
last-stays n x s few = grind arith

last-drops : (n : ℕ) (x : ℕ) (s : List ℕ) → n ≤ characters s → last_characters n (x ∷ s) ≡ last_characters n s
last-drops n x s many = grind arith

-- From byte k on there are n of them, unless that is the first byte; from the next one on fewer.
pub last-from : (n : ℕ) (s : List ℕ) (k : ℕ) → (0 < k → n ≤ characters (drop k s))
    → (k < length s → characters (drop (suc k) s) < n) → last_characters n s ≡ drop k s
last-from n [] zero many few = refl
last-from n [] (suc k) many few = refl
last-from n (x ∷ s) zero many few = last-stays n x s (few (omega arith))
last-from n (x ∷ s) (suc k) many few =
    last-drops n x s (omega (arith, many (omega arith), characters-drop k s))
    ∙ last-from n s k (λ _. many (omega arith)) (λ h. few (omega arith))
