-- What is added to what was found, part by part; and that each call is smaller.
use Rattle.std.proofs.Common.{◌≡◌, ◌∙◌, ap, sym, refl, ◌<◌, ◌≤◌, ◌+◌, ℕ, suc, List, [], ◌∷◌, ◌++◌, length, drop}
use Rattle.std.proofs.Common.{get_or, map, flat_map, arith, append_assoc, append-nil, length-append}
use Rattle.std.proofs.lemmas.Grind.{flat_map-append}
use Rattle.std.proofs.lemmas.List.{drop_all, drop_more, map-append}
use Rattle.simd_json_parts.specs.Document.{Document, null, boolean, integer, decimal, string, array, object}
use Rattle.simd_json_parts.specs.Document.{Elements, no_elements, element, elements}
use Rattle.simd_json_parts.specs.Document.{Members, no_members, member, members}
use Rattle.simd_json_parts.specs.Listing.{elements_listing, listing, members_listing}
use Rattle.simd_json.specs.Sizes.{elements_size, members_size, size, sizes}
use Rattle.simd_json_path.specs.Locations.{Place, below, index, name, named, nodes_from, nodes_of_elements, nodes_of_members, numbered}
use Rattle.simd_json_path.specs.Locations.{placed_by, placed_children, selected_nodes}
use Rattle.simd_json_path.specs.PlacedNodes.{texts}
use Rattle.simd_json.proofs.Walks.{array_smaller, values_smaller}
use Rattle.simd_json_path.proofs.Locations.{value-children, value-numbered}
use Rattle.simd_json_query.specs.declared.query.Segment.{Segment}
use Rattle.simd_json_query.specs.declared.query.Selector.{Selector}

-- ---- one part, then the others

pub added-some : (old new total : List (List ℕ × Document)) (xs ys : List (List Place × Document))
    → old ++ texts (xs ++ ys) ≡ total → new ≡ old ++ texts xs → new ++ texts ys ≡ total
added-some old new total xs ys all is =
    ap (λ ts. ts ++ texts ys) is
    ∙ append_assoc old (texts xs) (texts ys)
    ∙ ap (λ ts. old ++ ts) (sym (map-append _ xs ys))
    ∙ all

pub added-all : (now total : List (List ℕ × Document)) (ns : List (List Place × Document)) → now ++ texts ns ≡ total → ns ≡ [] → now ≡ total
added-all now total ns all none = sym (append-nil now) ∙ ap (λ xs. now ++ texts xs) (sym none) ∙ all

module _ (each : List Place × Document → List (List Place × Document)) (n : List Place × Document) where
  -- of the next child, and of those after it
  pub of-child : (now : List (Place × Document)) (c : Place × Document) (others : List (Place × Document)) → now ≡ c ∷ others
      → flat_map each (map (below n) now) ≡ each (below n c) ++ flat_map each (map (below n) others)
  of-child now c others is = ap (λ cs. flat_map each (map (below n) cs)) is

  pub of-none : (now : List (Place × Document)) → now ≡ [] → flat_map each (map (below n) now) ≡ []
  of-none now none = ap (λ cs. flat_map each (map (below n) cs)) none

  -- of what the next selector selects, and of what those after it select
  pub of-selector : (root : Document) (ss : List Selector) (i : ℕ) (s : Selector) → i < length ss
      → flat_map each (selected_nodes root (drop i ss) n)
      ≡ flat_map each (map (below n) (placed_by root (get_or ss i s) n.1)) ++ flat_map each (selected_nodes root (drop (i + 1) ss) n)
  of-selector root ss i s some =
      ap (λ zs. flat_map each (selected_nodes root zs n)) (drop_more ss i s some)
      ∙ flat_map-append each (map (below n) (placed_by root (get_or ss i s) n.1)) (selected_nodes root (drop (i + 1) ss) n)

  pub of-no-selector : (root : Document) (ss : List Selector) (i : ℕ) → length ss ≤ i
      → flat_map each (selected_nodes root (drop i ss) n) ≡ []
  of-no-selector root ss i all = ap (λ zs. flat_map each (selected_nodes root zs n)) (drop_all i ss all)

-- ---- a node, and those beneath it

abbrev pub from_child : List Place → Place × Document → List (List Place × Document)
from_child way c = nodes_from (way ++ c.0 ∷ []) c.1

elements-beneath : (way : List Place) (i : ℕ) (ds : Elements)
    → nodes_of_elements way i ds ≡ flat_map (from_child way) (numbered i (elements ds))
elements-beneath way i no_elements = refl
elements-beneath way i (element d ds) = ap (λ ns. nodes_from (way ++ index i ∷ []) d ++ ns) (elements-beneath way (suc i) ds)

members-beneath : (way : List Place) (ms : Members) → nodes_of_members way ms ≡ flat_map (from_child way) (named (members ms))
members-beneath way no_members = refl
members-beneath way (member key d ms) = ap (λ ns. nodes_from (way ++ name key ∷ []) d ++ ns) (members-beneath way ms)

nodes-beneath : (way : List Place) (d : Document) → nodes_from way d ≡ (way, d) ∷ flat_map (from_child way) (placed_children d)
nodes-beneath way (array ds) = ap (λ ns. (way, array ds) ∷ ns) (elements-beneath way 0 ds)
nodes-beneath way (object ms) = ap (λ ns. (way, object ms) ∷ ns) (members-beneath way ms)
nodes-beneath way null = refl
nodes-beneath way (boolean b) = refl
nodes-beneath way (integer minus n) = refl
nodes-beneath way (decimal literal) = refl
nodes-beneath way (string t) = refl

module _ (each : List Place × Document → List (List Place × Document)) (way : List Place) where
  -- of those beneath children
  abbrev pub beneath : List (Place × Document) → List (List Place × Document)
  beneath cs = flat_map each (flat_map (from_child way) cs)

  pub of-node : (d : Document) → flat_map each (nodes_from way d) ≡ each (way, d) ++ beneath (placed_children d)
  of-node d = ap (flat_map each) (nodes-beneath way d)

  pub of-next : (now : List (Place × Document)) (c : Place × Document) (others : List (Place × Document)) → now ≡ c ∷ others
      → beneath now ≡ flat_map each (nodes_from (way ++ c.0 ∷ []) c.1) ++ beneath others
  of-next now c others is = ap beneath is ∙ flat_map-append each (from_child way c) (flat_map (from_child way) others)

  pub of-end : (now : List (Place × Document)) → now ≡ [] → beneath now ≡ []
  of-end now none = ap beneath none

-- ---- sizes

abbrev pub values : List (Place × Document) → List Document
values cs = map (λ c. c.1) cs

mutual
  pub size-listing : (d : Document) → size d ≤ length (listing d)
  size-listing (array ds) = omega (arith, elements-size ds)
  size-listing (object ms) = omega (arith, members-size ms)
  size-listing null = omega arith
  size-listing (boolean b) = omega arith
  size-listing (integer minus n) = omega arith
  size-listing (decimal literal) = omega arith
  size-listing (string t) = omega arith

  elements-size : (ds : Elements) → elements_size ds ≤ length (elements_listing ds)
  elements-size no_elements = omega arith
  elements-size (element d ds) = omega (arith, length-append (listing d) (elements_listing ds), size-listing d, elements-size ds)

  members-size : (ms : Members) → members_size ms ≤ length (members_listing ms)
  members-size no_members = omega arith
  members-size (member k d ms) = omega (arith, length-append (listing d) (members_listing ms), size-listing d, members-size ms)

pub children-smaller : (cs : List (Place × Document)) (d : Document) → cs ≡ placed_children d → sizes (values cs) < size d
children-smaller cs (array ds) is = array_smaller (values cs) ds (array ds) (ap values is ∙ value-numbered 0 (elements ds)) refl
children-smaller cs (object ms) is = values_smaller (values cs) ms (object ms) (ap values is ∙ value-children (object ms)) refl
children-smaller cs null is = omega (arith, ap (λ xs. sizes (values xs)) is)
children-smaller cs (boolean b) is = omega (arith, ap (λ xs. sizes (values xs)) is)
children-smaller cs (integer minus n) is = omega (arith, ap (λ xs. sizes (values xs)) is)
children-smaller cs (decimal literal) is = omega (arith, ap (λ xs. sizes (values xs)) is)
children-smaller cs (string t) is = omega (arith, ap (λ xs. sizes (values xs)) is)

-- how many steps there are in segments, and more for each segment
abbrev pub steps_left : List (Segment Selector) → ℕ
steps_left [] = 0
steps_left (s ∷ ss) = steps_left ss + length s.steps.now + 4
