-- Sets of byte lists, in the manner of RFC 5234's grammars: by concatenation, choice and repetition. Acceptance
-- rests on it.
use Rattle.std.specs.Prelude.{◌≡◌, ℕ, ◌≤◌, ◌⊎◌, List, [], ◌∷◌, ◌++◌}
use Rattle.std.specs.List.{concat, AllByRecursion}

infixr 60 ◌then◌
infixr 50 ◌or◌
pub data Pattern : Type 0 where
  -- no list; the empty list; one byte, from the first number up to the second
  never : Pattern
  empty : Pattern
  range : ℕ → ℕ → Pattern
  ◌then◌ : Pattern → Pattern → Pattern
  ◌or◌ : Pattern → Pattern → Pattern
  many : Pattern → Pattern

abbrev pub byte : ℕ → Pattern
byte c = range c c

abbrev pub optional : Pattern → Pattern
optional p = empty or p

abbrev pub at_least_one : Pattern → Pattern
at_least_one p = p then many p

-- the list is in the set
abbrev pub Matches : Pattern → List ℕ → Type 0
Matches never bs = ⊥
Matches empty bs = bs ≡ []
Matches (range low high) bs = (c : ℕ) × (bs ≡ c ∷ []) × (low ≤ c) × (c ≤ high)
Matches (p then q) bs = (xs : List ℕ) × (ys : List ℕ) × (bs ≡ xs ++ ys) × Matches p xs × Matches q ys
Matches (p or q) bs = Matches p bs ⊎ Matches q bs
Matches (many p) bs = (parts : List (List ℕ)) × (bs ≡ concat parts) × AllByRecursion (Matches p) parts

-- the list goes on to one that is in the set
abbrev pub Begins : Pattern → List ℕ → Type 0
Begins p bs = (rest : List ℕ) × Matches p (bs ++ rest)
