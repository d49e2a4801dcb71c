-- A singular query selects at most one value.
use Rattle.std.proofs.Common.{◌≡◌, refl, ◌≤◌, List, [], ◌∷◌, length, flat_map, arith, Bool, true, false}
use Rattle.std.proofs.Common.{Option, Some, None, length-append}
use Rattle.std.specs.Prelude.{not, ◌&&◌}
use Rattle.std.specs.List.{list_all}
use Rattle.std.specs.Option.{option_to_list}
use Rattle.simd_json_parts.specs.Document.{Document}
use Rattle.simd_json_parts.specs.Views.{get}
use Rattle.simd_json_path.specs.Indexes.{at_index}
use Rattle.simd_json_path.specs.Nodes.{at_steps, followed, nodes, selected_of, visited}
use Rattle.simd_json_path.specs.Paths.{is_singular, selected, selected_by, selected_by_all}
use Rattle.simd_json_path.specs.Singular.{is_one}
use Rattle.simd_json_path.specs.declared.path.Path.{Path}
use Rattle.simd_json_query.specs.declared.query.Choice.TheVariants as choice
use Rattle.simd_json_query.specs.declared.query.Segment.{Segment}
use Rattle.simd_json_query.specs.declared.query.Selector.{Selector}
use Rattle.simd_json_query.specs.declared.query.Selector.TheVariants as selector

option-one : (o : Option Document) → length (option_to_list o) ≤ 1
option-one None = omega arith
option-one (Some d) = omega arith

-- at most one of each of at most one
one-of-one : (f : Document → List Document) → ((d : Document) → length (f d) ≤ 1) → (ds : List Document) → length ds ≤ 1
    → length (flat_map f ds) ≤ 1
one-of-one f one [] few = omega arith
one-of-one f one (d ∷ []) few = omega (arith, length-append (f d) [], one d)
one-of-one f one (d ∷ e ∷ ds) few = absurd (omega arith)

selectors-one : (root : Document) (ss : List Selector) (d : Document) → is_one ss ≡ true → length (selected_by_all root ss d) ≤ 1
selectors-one root [] d one = cc
selectors-one root (selector.Choice (choice.Name key) ∷ []) d one =
    omega (arith, length-append (option_to_list (get key.now d)) [], option-one (get key.now d))
selectors-one root (selector.Choice (choice.Index i) ∷ []) d one =
    omega (arith, length-append (option_to_list (at_index i d)) [], option-one (at_index i d))
selectors-one root (selector.Choice choice.Wildcard ∷ []) d one = cc
selectors-one root (selector.Choice (choice.Slice s) ∷ []) d one = cc
selectors-one root (selector.Filter test ∷ []) d one = cc
selectors-one root (selector.Choice (choice.Name key) ∷ t ∷ ss) d one = cc
selectors-one root (selector.Choice (choice.Index i) ∷ t ∷ ss) d one = cc
selectors-one root (selector.Choice choice.Wildcard ∷ t ∷ ss) d one = cc
selectors-one root (selector.Choice (choice.Slice s) ∷ t ∷ ss) d one = cc
selectors-one root (selector.Filter test ∷ t ∷ ss) d one = cc

visited-one : (b c : Bool) (d : Document) → (not b && c) ≡ true → length (visited b d) ≤ 1
visited-one false c d one = omega arith
visited-one true c d one = cc

second : (b c : Bool) → (not b && c) ≡ true → c ≡ true
second false c both = both
second true c both = cc

segment-one : (root : Document) (s : Segment Selector) (d : Document) → (not s.is_descendant && is_one s.selectors.now) ≡ true
    → length (selected_of (selected_by root) s d) ≤ 1
segment-one root s d one =
    let chosen = λ (e : Document). selectors-one root s.selectors.now e (second s.is_descendant (is_one s.selectors.now) one) in
    let at = one-of-one (selected_by_all root s.selectors.now) chosen (visited s.is_descendant d)
    (visited-one s.is_descendant (is_one s.selectors.now) d one) in
    one-of-one (λ e. option_to_list (at_steps s.steps.now e)) (λ e. option-one (at_steps s.steps.now e)) _ at

first-of : (b c : Bool) → (b && c) ≡ true → b ≡ true
first-of true c both = refl
first-of false c both = cc

then-of : (b c : Bool) → (b && c) ≡ true → c ≡ true
then-of true c both = both
then-of false c both = cc

nodes-one-each : (root : Document) (ss : List (Segment Selector)) (ds : List Document)
    → list_all (λ s. not s.is_descendant && is_one s.selectors.now) ss ≡ true → length ds ≤ 1
    → length (nodes (selected_by root) ss ds) ≤ 1
nodes-one-each root [] ds all few = few
nodes-one-each root (s ∷ ss) ds all few =
    nodes-one-each root ss (flat_map (selected_of (selected_by root) s) ds) (then-of _ _ all)
    (one-of-one (selected_of (selected_by root) s) (λ d. segment-one root s d (first-of _ _ all)) ds few)

pub singular-one : (path : Path) (d : Document) → is_singular path ≡ true → length (selected path d) ≤ 1
singular-one path d singular =
    nodes-one-each d path.segments.now (followed path.steps.now (d ∷ [])) singular
    (one-of-one (λ e. option_to_list (at_steps path.steps.now e)) (λ e. option-one (at_steps path.steps.now e)) (d ∷ []) (omega arith))
