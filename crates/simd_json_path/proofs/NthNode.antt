-- Which one of documents has an index: of a first part of them, then of the others.
use Rattle.std.proofs.Common.{◌≡◌, ◌∙◌, ap, sym, ◌<◌, ◌≤◌, ◌+◌, ℕ, zero, suc, List, [], ◌∷◌, ◌++◌, length, drop, get_or, arith, true, false}
use Rattle.std.proofs.Common.{Some, flat_map}
use Rattle.std.specs.Option.{option_to_list}
use Rattle.std.specs.declared.ops.ControlFlow.TheVariants.{Break, Continue}
use Rattle.std.proofs.lemmas.List.{drop_all, drop_more}
use Rattle.simd_json_parts.specs.Document.{Document}
use Rattle.simd_json.specs.Beneath.{containers}
use Rattle.simd_json_path.specs.Nodes.{at_steps, by_all, chosen_by, followed, nodes}
use Rattle.simd_json_path.specs.NthNode.{nth_of}
use Rattle.simd_json_query.specs.declared.filter.Step.{Step}
use Rattle.simd_json_query.specs.declared.query.Choice.{Choice}
use Rattle.simd_json_query.specs.declared.query.Segment.{Segment}
use Rattle.simd_json_path.proofs.Bare.{scalar-chosen, selected-child, selected-descendants}
use Rattle.simd_json_path.proofs.Segments.{nodes-append, nodes-followed, nodes-none, nodes-one}

-- ---- of a first part, then of the others

pub nth-found : (xs ys : List Document) (n : ℕ) (d : Document) → nth_of xs n ≡ Break d → nth_of (xs ++ ys) n ≡ Break d
nth-found [] ys n d is = cc
nth-found (x ∷ xs) ys zero d is = is
nth-found (x ∷ xs) ys (suc n) d is = nth-found xs ys n d is

pub nth-left : (xs ys : List Document) (n left : ℕ) → nth_of xs n ≡ Continue left → nth_of (xs ++ ys) n ≡ nth_of ys left
nth-left [] ys n left is = cc
nth-left (x ∷ xs) ys zero left is = cc
nth-left (x ∷ xs) ys (suc n) left is = nth-left xs ys n left is

-- ---- what segments select of a node, by what the first one's selectors select

module _ (ss : List (Segment Choice)) (s : Segment Choice) (others : List (Segment Choice)) (d : Document) (is : ss ≡ s ∷ others) where
  pub child-begun : s.is_descendant ≡ false
      → nodes chosen_by ss (d ∷ []) ≡ nodes chosen_by others (followed s.steps.now (by_all chosen_by s.selectors.now d))
  child-begun child =
      ap (λ zs. nodes chosen_by zs (d ∷ [])) is
      ∙ nodes-one chosen_by s others d
      ∙ ap (nodes chosen_by others) (selected-child chosen_by scalar-chosen s d child)

  pub descendants-begun : (ds : List Document) → s.is_descendant ≡ true → ds ≡ containers d
      → nodes chosen_by ss (d ∷ []) ≡ nodes chosen_by others (followed s.steps.now (flat_map (by_all chosen_by s.selectors.now) ds))
  descendants-begun ds descendant all =
      ap (λ zs. nodes chosen_by zs (d ∷ [])) is
      ∙ nodes-one chosen_by s others d
      ∙ ap (nodes chosen_by others) (selected-descendants chosen_by scalar-chosen s d descendant)
      ∙ ap (λ es. nodes chosen_by others (followed s.steps.now (flat_map (by_all chosen_by s.selectors.now) es))) (sym all)

module _ (others : List (Segment Choice)) (steps : List Step) (cs : List Choice) where
  -- of one of the arrays and objects, then of those after it
  pub container-step : (now : List Document) (d : Document) (rest : List Document) → now ≡ d ∷ rest
      → nodes chosen_by others (followed steps (flat_map (by_all chosen_by cs) now))
      ≡ nodes chosen_by others (followed steps (by_all chosen_by cs d))
      ++ nodes chosen_by others (followed steps (flat_map (by_all chosen_by cs) rest))
  container-step now d rest is =
      let all = by_all chosen_by cs in
      ap (λ ds. nodes chosen_by others (followed steps (flat_map all ds))) is
      ∙ nodes-followed chosen_by others steps (all d) (flat_map all rest)

  pub containers-end : (now : List Document) → now ≡ []
      → nodes chosen_by others (followed steps (flat_map (by_all chosen_by cs) now)) ≡ []
  containers-end now none =
      ap (λ ds. nodes chosen_by others (followed steps (flat_map (by_all chosen_by cs) ds))) none ∙ nodes-none chosen_by others

  -- of what one selector selects, then of what the selectors after it select
  pub choice-step : (i : ℕ) (c : Choice) (d : Document) (ds : List Document) → i < length cs → ds ≡ chosen_by (get_or cs i c) d
      → nodes chosen_by others (followed steps (by_all chosen_by (drop i cs) d))
      ≡ nodes chosen_by others (followed steps ds)
      ++ nodes chosen_by others (followed steps (by_all chosen_by (drop (i + 1) cs) d))
  choice-step i c d ds some is =
      let first = chosen_by (get_or cs i c) d in
      let more = by_all chosen_by (drop (i + 1) cs) d in
      ap (λ zs. nodes chosen_by others (followed steps (by_all chosen_by zs d))) (drop_more cs i c some)
      ∙ nodes-followed chosen_by others steps first more
      ∙ ap (λ xs. nodes chosen_by others (followed steps xs) ++ nodes chosen_by others (followed steps more)) (sym is)

  pub choices-end : (i : ℕ) (d : Document) → length cs ≤ i
      → nodes chosen_by others (followed steps (by_all chosen_by (drop i cs) d)) ≡ []
  choices-end i d all =
      ap (λ zs. nodes chosen_by others (followed steps (by_all chosen_by zs d))) (drop_all i cs all) ∙ nodes-none chosen_by others

-- ---- what they select of each of some nodes

pub child-step : (ss : List (Segment Choice)) (steps : List Step) (now : List Document) (child : Document) (rest : List Document)
    (reached : Document) → now ≡ child ∷ rest → Some reached ≡ at_steps steps child
    → nodes chosen_by ss (followed steps now)
    ≡ nodes chosen_by ss (reached ∷ []) ++ nodes chosen_by ss (followed steps rest)
child-step ss steps now child rest reached is at =
    ap (λ ds. nodes chosen_by ss (followed steps ds)) is
    ∙ nodes-append chosen_by ss (option_to_list (at_steps steps child)) (followed steps rest)
    ∙ ap (λ o. nodes chosen_by ss (option_to_list o) ++ nodes chosen_by ss (followed steps rest)) (sym at)

pub children-end : (ss : List (Segment Choice)) (steps : List Step) (now : List Document) → now ≡ []
    → nodes chosen_by ss (followed steps now) ≡ []
children-end ss steps now none = ap (λ ds. nodes chosen_by ss (followed steps ds)) none ∙ nodes-none chosen_by ss

-- ---- what an index says of the number

pub nth-within : (ds : List Document) (n left : ℕ) → nth_of ds n ≡ Continue left → length ds + left ≡ n
nth-within [] n left is = let same : left ≡ n = cc in omega (arith, same)
nth-within (d ∷ ds) zero left is = cc
nth-within (d ∷ ds) (suc n) left is = omega (arith, nth-within ds n left is)

pub nth-beyond : (ds : List Document) (n : ℕ) (d : Document) → nth_of ds n ≡ Break d → n < length ds
nth-beyond [] n d is = cc
nth-beyond (e ∷ ds) zero d is = omega arith
nth-beyond (e ∷ ds) (suc n) d is = omega (arith, nth-beyond ds n d is)
