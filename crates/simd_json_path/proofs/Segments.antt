-- What segments select of nodes: of each of them.
use Rattle.std.proofs.Common.{◌≡◌, ◌∙◌, ap, refl, List, [], ◌∷◌, ◌++◌, append-nil}
use Rattle.std.specs.Option.{option_to_list}
use Rattle.std.proofs.lemmas.Grind.{flat_map-append}
use Rattle.simd_json_parts.specs.Document.{Document}
use Rattle.simd_json_path.specs.Nodes.{at_steps, followed, nodes, selected_of}
use Rattle.simd_json_query.specs.declared.filter.Step.{Step}
use Rattle.simd_json_query.specs.declared.query.Segment.{Segment}

-- where this is what one selector selects
module _ {S : Type 0} (by : S → Document → List Document) where
  pub nodes-append : (ss : List (Segment S)) (xs ys : List Document) → nodes by ss (xs ++ ys) ≡ nodes by ss xs ++ nodes by ss ys
  nodes-append [] xs ys = refl
  nodes-append (s ∷ ss) xs ys = ap (nodes by ss) (flat_map-append (selected_of by s) xs ys) ∙ nodes-append ss _ _

  pub nodes-none : (ss : List (Segment S)) → nodes by ss [] ≡ []
  nodes-none [] = refl
  nodes-none (s ∷ ss) = nodes-none ss

  pub nodes-one : (s : Segment S) (ss : List (Segment S)) (d : Document) → nodes by (s ∷ ss) (d ∷ []) ≡ nodes by ss (selected_of by s d)
  nodes-one s ss d = ap (nodes by ss) (append-nil (selected_of by s d))

  -- where steps lead from a first part of them, then from the others
  pub nodes-followed : (ss : List (Segment S)) (steps : List Step) (xs ys : List Document)
      → nodes by ss (followed steps (xs ++ ys)) ≡ nodes by ss (followed steps xs) ++ nodes by ss (followed steps ys)
  nodes-followed ss steps xs ys =
      ap (nodes by ss) (flat_map-append (λ d. option_to_list (at_steps steps d)) xs ys)
      ∙ nodes-append ss (followed steps xs) (followed steps ys)
