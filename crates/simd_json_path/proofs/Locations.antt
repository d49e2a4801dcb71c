-- The values of what is located are what is selected.
use Rattle.std.proofs.Common.{◌≡◌, ◌∙◌, ap, sym, refl, ℕ, zero, suc, List, [], ◌∷◌, ◌++◌, length, drop, take, map, reverse}
use Rattle.std.proofs.Common.{filter, flat_map, Bool, true, false, cond, Option, Some, None, append-nil}
use Rattle.std.specs.Prelude.{ℤ, pos, negsuc, option_and_then, option_map, slice_get}
use Rattle.std.specs.Option.{option_to_list}
use Rattle.std.proofs.lemmas.Grind.{flat_map-append}
use Rattle.std.proofs.lemmas.List.{length-map, map-append, reverse-append}
use Rattle.simd_json_parts.specs.Document.{Document, null, boolean, integer, decimal, string, array, object}
use Rattle.simd_json_parts.specs.Document.{Elements, no_elements, element, elements}
use Rattle.simd_json_parts.specs.Document.{Members, no_members, member, members}
use Rattle.simd_json_parts.specs.Views.{get, values}
use Rattle.simd_json.specs.Beneath.{among_elements, among_members, children, descendants}
use Rattle.simd_json_path.specs.Filters.{holds}
use Rattle.simd_json_path.specs.Indexes.{at_index, element_index}
use Rattle.simd_json_path.specs.Locations.{Place, along, below, by_segment, if_some, index, located, located_from, name, named}
use Rattle.simd_json_path.specs.Locations.{node_at, nodes_from}
use Rattle.simd_json_path.specs.Locations.{nodes_of_elements, nodes_of_members, numbered, placed_by, placed_children, placed_choice}
use Rattle.simd_json_path.specs.Locations.{placed_index, placed_name, placed_slice, placed_step, selected_nodes, visited_nodes}
use Rattle.simd_json_path.specs.Nodes.{at_step, at_steps, chosen_by, followed, nodes, selected_of, visited}
use Rattle.simd_json_path.specs.Paths.{selected, selected_by, selected_by_all}
use Rattle.simd_json_path.specs.Slices.{backward, bound_after_or, bound_or, by_step, every, forward, sliced}
use Rattle.simd_json_path.specs.declared.path.Path.{Path}
use Rattle.simd_json_query.specs.declared.filter.Step.{Step}
use Rattle.simd_json_query.specs.declared.filter.Step.TheVariants as step
use Rattle.simd_json_query.specs.declared.query.Choice.{Choice}
use Rattle.simd_json_query.specs.declared.query.Choice.TheVariants as choice
use Rattle.simd_json_query.specs.declared.query.Segment.{Segment}
use Rattle.simd_json_query.specs.declared.query.Selector.{Selector}
use Rattle.simd_json_query.specs.declared.query.Selector.TheVariants as selector
use Rattle.simd_json_query.specs.declared.query.Slice.{Slice}
use Rattle.simd_json_path.proofs.Segments.{nodes-append, nodes-none, nodes-one}

-- ---- lists

module _ {A B : Type 0} (f : A → B) where
  map-every : (gap skip : ℕ) (xs : List A) → map f (every gap skip xs) ≡ every gap skip (map f xs)
  map-every gap zero [] = refl
  map-every gap (suc skip) [] = refl
  map-every gap zero (x ∷ xs) = ap (λ ys. f x ∷ ys) (map-every gap gap xs)
  map-every gap (suc skip) (x ∷ xs) = map-every gap skip xs

  map-drop : (n : ℕ) (xs : List A) → map f (drop n xs) ≡ drop n (map f xs)
  map-drop zero xs = refl
  map-drop (suc n) [] = refl
  map-drop (suc n) (x ∷ xs) = map-drop n xs

  map-take : (n : ℕ) (xs : List A) → map f (take n xs) ≡ take n (map f xs)
  map-take zero xs = refl
  map-take (suc n) [] = refl
  map-take (suc n) (x ∷ xs) = ap (λ ys. f x ∷ ys) (map-take n xs)

  map-reverse : (xs : List A) → map f (reverse xs) ≡ reverse (map f xs)
  map-reverse [] = refl
  map-reverse (x ∷ xs) =
      ap (map f) (reverse-append (x ∷ []) xs)
      ∙ map-append f (reverse xs) (x ∷ [])
      ∙ ap (λ ys. ys ++ f x ∷ []) (map-reverse xs)
      ∙ sym (reverse-append (f x ∷ []) (map f xs))

  map-forward : (s : Slice) (gap : ℕ) (xs : List A) → map f (forward s gap xs) ≡ forward s gap (map f xs)
  map-forward s gap xs =
      let len = length xs in
      let from = bound_or s.start 0 len in
      let to = bound_or s.end len len in
      map-every gap 0 (drop from (take to xs))
      ∙ ap (every gap 0) (map-drop from (take to xs) ∙ ap (drop from) (map-take to xs))
      ∙ ap (λ n. every gap 0 (drop (bound_or s.start 0 n) (take (bound_or s.end n n) (map f xs)))) (sym (length-map xs f))

  map-backward : (s : Slice) (gap : ℕ) (xs : List A) → map f (backward s gap xs) ≡ backward s gap (map f xs)
  map-backward s gap xs =
      let len = length xs in
      let floor = bound_after_or s.end 0 len in
      let end = bound_after_or s.start len len in
      map-every gap 0 (reverse (drop floor (take end xs)))
      ∙ ap (every gap 0) (map-reverse (drop floor (take end xs))
      ∙ ap reverse (map-drop floor (take end xs) ∙ ap (drop floor) (map-take end xs)))
      ∙ ap (λ n. every gap 0 (reverse (drop (bound_after_or s.end 0 n) (take (bound_after_or s.start n n) (map f xs)))))
      (sym (length-map xs f))

  map-by_step : (s : Slice) (i : ℤ) (xs : List A) → map f (by_step s i xs) ≡ by_step s i (map f xs)
  map-by_step s (pos zero) xs = refl
  map-by_step s (pos (suc gap)) xs = map-forward s gap xs
  map-by_step s (negsuc gap) xs = map-backward s gap xs

  map-option : (o : Option A) → map f (option_to_list o) ≡ option_to_list (option_map f o)
  map-option None = refl
  map-option (Some x) = refl

  kept : (p : B → Bool) (b : Bool) (x : A) (xs : List A) → map f (cond b (x ∷ xs) xs) ≡ cond b (f x ∷ map f xs) (map f xs)
  kept p true x xs = refl
  kept p false x xs = refl

  map-filter : (p : B → Bool) (xs : List A) → map f (filter (λ x. p (f x)) xs) ≡ filter p (map f xs)
  map-filter p [] = refl
  map-filter p (x ∷ xs) =
      kept p (p (f x)) x (filter (λ x. p (f x)) xs) ∙ ap (λ ys. cond (p (f x)) (f x ∷ ys) ys) (map-filter p xs)

map-flat : {A B C : Type 0} (f : B → C) (g : A → List B) (xs : List A) → map f (flat_map g xs) ≡ flat_map (λ x. map f (g x)) xs
map-flat f g [] = refl
map-flat f g (x ∷ xs) = map-append f (g x) (flat_map g xs) ∙ ap (λ ys. map f (g x) ++ ys) (map-flat f g xs)

flat-same : {A B : Type 0} (f g : A → List B) → ((x : A) → f x ≡ g x) → (xs : List A) → flat_map f xs ≡ flat_map g xs
flat-same f g same [] = refl
flat-same f g same (x ∷ xs) = ap (λ ys. ys ++ flat_map f xs) (same x) ∙ ap (λ ys. g x ++ ys) (flat-same f g same xs)

flat-map : {A B C : Type 0} (f : B → List C) (g : A → B) (xs : List A) → flat_map (λ x. f (g x)) xs ≡ flat_map f (map g xs)
flat-map f g [] = refl
flat-map f g (x ∷ xs) = ap (λ ys. f (g x) ++ ys) (flat-map f g xs)

flat-flat : {A B C : Type 0} (f : B → List C) (g : A → List B) (xs : List A)
    → flat_map f (flat_map g xs) ≡ flat_map (λ x. flat_map f (g x)) xs
flat-flat f g [] = refl
flat-flat f g (x ∷ xs) = flat_map-append f (g x) (flat_map g xs) ∙ ap (λ ys. flat_map f (g x) ++ ys) (flat-flat f g xs)

-- ---- children, without their places

abbrev value : Place × Document → Document
value c = c.1

pub value-numbered : (i : ℕ) (ds : List Document) → map value (numbered i ds) ≡ ds
value-numbered i [] = refl
value-numbered i (d ∷ ds) = ap (λ xs. d ∷ xs) (value-numbered (suc i) ds)

value-named : (ms : Members) → map value (named (members ms)) ≡ values ms
value-named no_members = refl
value-named (member k d ms) = ap (λ xs. d ∷ xs) (value-named ms)

pub value-children : (d : Document) → map value (placed_children d) ≡ children d
value-children (array ds) = value-numbered 0 (elements ds)
value-children (object ms) = value-named ms
value-children _ = refl

value-found : (k : List ℕ) (o : Option Document) → option_map value (option_map (λ v. (name k, v)) o) ≡ o
value-found k None = refl
value-found k (Some d) = refl

value-at : (k : ℕ) (o : Option Document) → option_map value (option_map (λ v. (index k, v)) o) ≡ o
value-at k None = refl
value-at k (Some d) = refl

value-element : (ds : List Document) (o : Option ℕ)
    → option_map value (option_and_then (λ k. option_map (λ v. (index k, v)) (slice_get ds k)) o) ≡ option_and_then (slice_get ds) o
value-element ds None = refl
value-element ds (Some k) = value-at k (slice_get ds k)

value-index : (i : ℤ) (d : Document) → option_map value (placed_index i d) ≡ at_index i d
value-index i (array ds) = value-element (elements ds) (element_index i (length (elements ds)))
value-index i _ = refl

value-slice : (s : Slice) (d : Document) → map value (placed_slice s d) ≡ sliced s d
value-slice s (array ds) =
    map-by_step value s s.step (numbered 0 (elements ds)) ∙ ap (by_step s s.step) (value-numbered 0 (elements ds))
value-slice s _ = refl

value-step : (s : Step) (d : Document) → option_map value (placed_step s d) ≡ at_step s d
value-step (step.Name key) d = value-found key.now (get key.now d)
value-step (step.Index i) d = value-index i d

value-choice : (c : Choice) (d : Document) → map value (placed_choice c d) ≡ chosen_by c d
value-choice (choice.Name key) d =
    map-option value (placed_name key.now d) ∙ ap option_to_list (value-found key.now (get key.now d))
value-choice choice.Wildcard d = value-children d
value-choice (choice.Index i) d = map-option value (placed_index i d) ∙ ap option_to_list (value-index i d)
value-choice (choice.Slice s) d = value-slice s d

value-by : (root : Document) (s : Selector) (d : Document) → map value (placed_by root s d) ≡ selected_by root s d
value-by root (selector.Choice c) d = value-choice c d
value-by root (selector.Filter test) d =
    map-filter value (holds root test.now) (placed_children d) ∙ ap (filter (holds root test.now)) (value-children d)

-- ---- nodes, without their locations

abbrev document : List Place × Document → Document
document n = n.1

document-below : (n : List Place × Document) (cs : List (Place × Document)) → map document (map (below n) cs) ≡ map value cs
document-below n [] = refl
document-below n (c ∷ cs) = ap (λ xs. c.1 ∷ xs) (document-below n cs)

document-selected : (root : Document) (ss : List Selector) (n : List Place × Document)
    → map document (selected_nodes root ss n) ≡ selected_by_all root ss n.1
document-selected root ss n =
    map-flat document (λ s. map (below n) (placed_by root s n.1)) ss
    ∙ flat-same (λ s. map document (map (below n) (placed_by root s n.1))) (λ s. selected_by root s n.1)
    (λ s. document-below n (placed_by root s n.1) ∙ value-by root s n.1) ss

mutual
  document-from : (way : List Place) (d : Document) → map document (nodes_from way d) ≡ descendants d
  document-from way (array ds) = ap (λ xs. array ds ∷ xs) (document-elements way 0 ds)
  document-from way (object ms) = ap (λ xs. object ms ∷ xs) (document-members way ms)
  document-from way null = refl
  document-from way (boolean b) = refl
  document-from way (integer minus n) = refl
  document-from way (decimal literal) = refl
  document-from way (string t) = refl

  document-elements : (way : List Place) (i : ℕ) (ds : Elements) → map document (nodes_of_elements way i ds) ≡ among_elements ds
  document-elements way i no_elements = refl
  document-elements way i (element d ds) =
      map-append document (nodes_from (way ++ index i ∷ []) d) (nodes_of_elements way (suc i) ds)
      ∙ ap (λ xs. xs ++ map document (nodes_of_elements way (suc i) ds)) (document-from (way ++ index i ∷ []) d)
      ∙ ap (λ xs. descendants d ++ xs) (document-elements way (suc i) ds)

  document-members : (way : List Place) (ms : Members) → map document (nodes_of_members way ms) ≡ among_members ms
  document-members way no_members = refl
  document-members way (member key d ms) =
      map-append document (nodes_from (way ++ name key ∷ []) d) (nodes_of_members way ms)
      ∙ ap (λ xs. xs ++ map document (nodes_of_members way ms)) (document-from (way ++ name key ∷ []) d)
      ∙ ap (λ xs. descendants d ++ xs) (document-members way ms)

document-visited : (b : Bool) (n : List Place × Document) → map document (visited_nodes b n) ≡ visited b n.1
document-visited false n = refl
document-visited true n = document-from n.0 n.1

then-at : (ss : List Step) (n : List Place × Document)
    → ((m : List Place × Document) → option_map document (node_at ss m) ≡ at_steps ss m.1) → (o : Option (Place × Document))
    → option_map document (option_and_then (λ c. node_at ss (below n c)) o) ≡ option_and_then (at_steps ss) (option_map value o)
then-at ss n others None = refl
then-at ss n others (Some c) = others (below n c)

document-at : (ss : List Step) (n : List Place × Document) → option_map document (node_at ss n) ≡ at_steps ss n.1
document-at [] n = refl
document-at (s ∷ ss) n =
    then-at ss n (document-at ss) (placed_step s n.1) ∙ ap (option_and_then (at_steps ss)) (value-step s n.1)

-- ---- queries

module _ (root : Document) where
  abbrev from : List (Segment Selector) → List Document → List Document
  from ss ds = nodes (selected_by root) ss ds

  from-each : {A : Type 0} (ss : List (Segment Selector)) (f : A → List Document) (xs : List A)
      → from ss (flat_map f xs) ≡ flat_map (λ x. from ss (f x)) xs
  from-each ss f [] = nodes-none (selected_by root) ss
  from-each ss f (x ∷ xs) = nodes-append (selected_by root) ss (f x) (flat_map f xs) ∙ ap (λ ys. from ss (f x) ++ ys) (from-each ss f xs)

  module _ (ss : List (Segment Selector)) (rest : List Place × Document → List (List Place × Document))
      (same : (n : List Place × Document) → map document (rest n) ≡ from ss (n.1 ∷ []))
    where
      of-option : (o : Option (List Place × Document)) → map document (if_some rest o) ≡ from ss (option_to_list (option_map document o))
      of-option None = sym (nodes-none (selected_by root) ss)
      of-option (Some n) = same n

      document-along : (steps : List Step) (n : List Place × Document)
          → map document (along rest steps n) ≡ from ss (option_to_list (at_steps steps n.1))
      document-along steps n = of-option (node_at steps n) ∙ ap (λ o. from ss (option_to_list o)) (document-at steps n)

      -- of one node that a segment visits
      document-segment : (s : Segment Selector) (n : List Place × Document) → map document (by_segment root rest s n)
          ≡ from ss (followed s.steps.now (selected_by_all root s.selectors.now n.1))
      document-segment s n =
          let steps = s.steps.now in
          let cs = selected_nodes root s.selectors.now n in
          let at = λ (d : Document). from ss (option_to_list (at_steps steps d)) in
          map-flat document (along rest steps) cs
          ∙ flat-same (λ c. map document (along rest steps c)) (λ c. at (document c)) (document-along steps) cs
          ∙ flat-map at document cs
          ∙ ap (flat_map at) (document-selected root s.selectors.now n)
          ∙ sym (from-each ss (λ d. option_to_list (at_steps steps d)) (selected_by_all root s.selectors.now n.1))

      document-visits : (s : Segment Selector) (n : List Place × Document)
          → map document (flat_map (by_segment root rest s) (visited_nodes s.is_descendant n))
          ≡ from ss (selected_of (selected_by root) s n.1)
      document-visits s n =
          let all = selected_by_all root s.selectors.now in
          let step = λ (d : Document). option_to_list (at_steps s.steps.now d) in
          let vs = visited_nodes s.is_descendant n in
          let at = λ (d : Document). from ss (followed s.steps.now (all d)) in
          map-flat document (by_segment root rest s) vs
          ∙ flat-same (λ v. map document (by_segment root rest s v)) (λ v. at (document v)) (document-segment s) vs
          ∙ flat-map at document vs
          ∙ ap (flat_map at) (document-visited s.is_descendant n)
          ∙ sym (from-each ss (λ d. followed s.steps.now (all d)) (visited s.is_descendant n.1))
          ∙ ap (from ss) (sym (flat-flat step all (visited s.is_descendant n.1)))

  document-located : (ss : List (Segment Selector)) (n : List Place × Document)
      → map document (located_from root ss n) ≡ from ss (n.1 ∷ [])
  document-located [] n = refl
  document-located (s ∷ ss) n =
      document-visits ss (located_from root ss) (document-located ss) s n ∙ sym (nodes-one (selected_by root) s ss n.1)

pub documents-are-selected : (path : Path) (d : Document) → map (λ n. n.1) (located path d) ≡ selected path d
documents-are-selected path d =
    document-along d path.segments.now (located_from d path.segments.now) (document-located d path.segments.now) path.steps.now ([], d)
    ∙ ap (nodes (selected_by d) path.segments.now) (sym (append-nil (option_to_list (at_steps path.steps.now d))))
