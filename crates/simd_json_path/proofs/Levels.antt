-- The bound of a comparison makes no difference where one of the two values nests no deeper.
use Rattle.std.proofs.Common.{◌≡◌, ◌≤◌, ◌∙◌, ap, sym, refl, ℕ, zero, suc, max, List, [], ◌∷◌, ◌++◌, arith, Bool, true, false, cond, Option}
use Rattle.std.proofs.Common.{Some, None, ◌&&◌, bytes_eq, min}
use Rattle.std.specs.List.{list_all}
use Rattle.std.specs.Option.{option_to_list}
use Rattle.simd_json_parts.specs.Document.{Document, array, object, Elements, no_elements, element, elements, Members, no_members, member}
use Rattle.simd_json_parts.specs.Limits.{depth, elements_depth, members_depth}
use Rattle.simd_json_parts.specs.Views.{first_with, keys}
use Rattle.simd_json_path.specs.Comparisons.{IsComparison, both_or_none, compared, same_at, same_lists, same_members, same_to}

-- how many levels documents in a row have, with their own
abbrev height : List Document → ℕ
height [] = 0
height (d ∷ ds) = max (suc (depth d)) (height ds)

height-elements : (ds : Elements) → height (elements ds) ≤ suc (elements_depth ds)
height-elements no_elements = omega arith
height-elements (element d ds) = omega (arith, height-elements ds)

height-cond : (b : Bool) (d : Document) (o : Option Document) (n : ℕ) → depth d ≤ n → height (option_to_list o) ≤ suc n
    → height (option_to_list (cond b (Some d) o)) ≤ suc n
height-cond true d o n here there = omega arith
height-cond false d o n here there = there

height-first : (key : List ℕ) (ms : Members) → height (option_to_list (first_with key ms)) ≤ suc (members_depth ms)
height-first key no_members = omega arith
height-first key (member k d ms) =
    height-cond (bytes_eq k key) d (first_with key ms) (max (depth d) (members_depth ms)) (omega arith) (omega (arith, height-first key ms))

-- two tests say the same of values of which one nests no deeper
abbrev Agree : (Document → Document → Bool) → (Document → Document → Bool) → ℕ → Type 0
Agree f g n = (d e : Document) → min (depth d) (depth e) ≤ n → f d e ≡ g d e

all-alike : (p q : List ℕ → Bool) → ((x : List ℕ) → p x ≡ q x) → (xs : List (List ℕ)) → list_all p xs ≡ list_all q xs
all-alike p q alike [] = refl
all-alike p q alike (x ∷ xs) = ap (λ b. b && list_all p xs) (alike x) ∙ ap (λ b. q x && b) (all-alike p q alike xs)

module _ (f g : Document → Document → Bool) (n : ℕ) (agree : Agree f g n) where
  lists-agree : (ds es : List Document) → min (height ds) (height es) ≤ suc n → same_lists f ds es ≡ same_lists g ds es
  lists-agree [] [] low = refl
  lists-agree [] (e ∷ es) low = refl
  lists-agree (d ∷ ds) [] low = refl
  lists-agree (d ∷ ds) (e ∷ es) low =
      ap (λ b. b && same_lists f ds es) (agree d e (omega (arith, low)))
      ∙ ap (λ b. g d e && b) (lists-agree ds es (omega (arith, low)))

  options-agree : (o q : Option Document) → min (height (option_to_list o)) (height (option_to_list q)) ≤ suc n
      → both_or_none f o q ≡ both_or_none g o q
  options-agree None None low = refl
  options-agree None (Some e) low = refl
  options-agree (Some d) None low = refl
  options-agree (Some d) (Some e) low = agree d e (omega (arith, low))

  members-agree : (ms ns : Members) → min (members_depth ms) (members_depth ns) ≤ n → same_members f ms ns ≡ same_members g ms ns
  members-agree ms ns low =
      all-alike (same_at f ms ns) (same_at g ms ns)
      (λ name. options-agree (first_with name ms) (first_with name ns) (omega (arith, low, height-first name ms, height-first name ns)))
      (keys ms ++ keys ns)

  -- so they do one level further
  compared-agree : (d e : Document) → min (depth d) (depth e) ≤ suc n → compared f d e ≡ compared g d e
  compared-agree (array ds) (array es) low =
      lists-agree (elements ds) (elements es) (omega (arith, low, height-elements ds, height-elements es))
  compared-agree (object ms) (object ns) low = members-agree ms ns (omega (arith, low))
  compared-agree (array ds) e low = refl
  compared-agree (object ms) e low = refl
  compared-agree d e low = refl

-- where one of the two is no array and no object
no-level : (f : Document → Document → Bool) (d e : Document) → min (depth d) (depth e) ≤ 0 → same_to zero d e ≡ compared f d e
no-level f (array ds) (array es) low = absurd (omega (arith, low))
no-level f (object ms) (object ns) low = absurd (omega (arith, low))
no-level f (array ds) (object ns) low = refl
no-level f (object ms) (array es) low = refl
no-level f (array ds) e low = refl
no-level f (object ms) e low = refl
no-level f d e low = refl

any-bound : (n m : ℕ) (d e : Document) → min (depth d) (depth e) ≤ n → min (depth d) (depth e) ≤ m → same_to n d e ≡ same_to m d e
any-bound zero zero d e low low' = refl
any-bound zero (suc m) d e low low' = no-level (same_to m) d e low
any-bound (suc n) zero d e low low' = sym (no-level (same_to n) d e low')
any-bound (suc n) (suc m) d e low low' =
    compared-agree (same_to n) (same_to m) (min n m)
    (λ d e low. any-bound n m d e (omega (arith, low)) (omega (arith, low)))
    d e (omega (arith, low, low'))

pub is-comparison : IsComparison (λ d e. same_to (depth d) d e)
is-comparison (array ds) e =
    let n = elements_depth ds in
    compared-agree (same_to n) (λ d e. same_to (depth d) d e) n (λ d e low. any-bound n (depth d) d e low (omega arith)) (array ds) e
    (omega arith)
is-comparison (object ms) e =
    let n = members_depth ms in
    compared-agree (same_to n) (λ d e. same_to (depth d) d e) n (λ d e low. any-bound n (depth d) d e low (omega arith)) (object ms) e
    (omega arith)
is-comparison d e = refl

pub comparison-to : (f : Document → Document → Bool) → IsComparison f → (n : ℕ) (d e : Document) → min (depth d) (depth e) ≤ n
    → same_to n d e ≡ f d e
comparison-to f is zero d e low = no-level f d e low ∙ sym (is d e)
comparison-to f is (suc n) d e low = compared-agree (same_to n) f n (comparison-to f is n) d e low ∙ sym (is d e)
