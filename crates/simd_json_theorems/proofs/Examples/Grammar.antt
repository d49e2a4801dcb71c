-- The grammar is a relation and does not compute: bytes, and the document that they are.
use Rattle.std.proofs.Common.{◌≡◌, refl, ℕ, List, [], ◌++◌, false}
use Rattle.std.specs.Prelude.{codes}
use Rattle.simd_json_parts.specs.Document.{integer, array, no_elements, element}
use Rattle.simd_json_parts.specs.Numbers.{integer_literal}
use Rattle.simd_json_parts.specs.Grammar.{AreMoreElements, Spaced, Joined, IsValue, Denotes}
use Rattle.simd_json_parts.proofs.Patterns.Sets.{matches-Matches}

-- with no whitespace round it
bare : {P : List ℕ → Type 0} (bs : List ℕ) → P bs → bs ≡ [] ++ bs ++ [] → Spaced P bs
bare bs holds e = record { before = []; inner = bs; after = []; whole = e; before_space = refl; after_space = refl; holds = holds }

joined : {P Q : List ℕ → Type 0} (xs ys : List ℕ) → P xs → Q ys → Joined P Q (xs ++ ys)
joined xs ys p q = record { left = xs; right = ys; whole = refl; left_holds = p; right_holds = q }

list-denoted : Denotes (codes "[1,[]]") (array (element (integer false 1) (element (array no_elements) no_elements)))
list-denoted = bare (codes "[1,[]]") (codes "1,[]", refl, joined (codes "1") (codes ",[]") first (codes "[]", refl, second)) refl
  where
    first : Spaced (IsValue (integer false 1)) (codes "1")
    first = bare (codes "1") (matches-Matches integer_literal (codes "1") refl, refl, refl) refl

    second : Joined (Spaced (IsValue (array no_elements))) (AreMoreElements no_elements) (codes "[]")
    second = joined (codes "[]") [] (bare (codes "[]") ([], refl, refl) refl) refl
